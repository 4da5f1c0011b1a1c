-- A run that is under way: what holds before each operation, and that an operation keeps it.
use Rattle.std.proofs.Common.{◌≡◌, ℕ, zero, suc, ◌+◌, ◌<◌, ◌≤◌, List, [], ◌∷◌, length, drop, map, get_or, Ok, refl, sym, ap, subst, ◌∙◌, arith}
use Rattle.std.proofs.lemmas.List.{drop-drop, drop_more, length-map}
use Rattle.pay_runs.specs.Weighing.{IsFuzzy}
use Rattle.pay_runs.specs.Slots.{Row}
use Rattle.pay_code.specs.declared.op.Op.{Op}
use Rattle.pay_code.specs.Bounds.{pays_of, pays_in, saved_of, saved_in}
use Rattle.pay_code.specs.BoundLaws.{StepsAddAtMost, StepsWithin, AddsAtMost}
use Rattle.pay_code.specs.Execution.{State, Stepped, step, exec, onward}
use Rattle.pay_code.specs.Programs.{Compiled, run, AreGoodOps, IsGoodOp}
use Rattle.pay_machine.specs.Frames.{begun}
use Rattle.pay_machine.specs.Paid.{RunPayments, paid}
use Rattle.pay_machine.specs.Work.{HasSameRooms, Keeps, state, stepped}
use Rattle.pay_machine.specs.declared.work.Work.{Work}

-- before the operation at a place: what is left gives what the whole run does, and there is room for it
pub record Underway (program : Compiled) (cells : Row) (first : Work) (paid_first : RunPayments) (at : ℕ) (work : Work) (made : RunPayments) : Type 0 where
  pub same : exec program.fuzzy program.table (drop at program.code) at 0 (state work made program.dates cells) ≡ run program cells
  pub numbers : length work.numbers.entries ≤ at
  pub weights : length work.weights.entries ≤ at
  pub frames : length work.frames.entries ≤ at
  pub saved : length work.saved.entries + saved_in program.table at (drop at program.code) ≤ work.saved.room
  pub payments : length made.kept + length made.fresh + pays_in (drop at program.code) ≤ made.room
  pub nodes : work.nodes ≤ at
  pub event : work.event ≤ at
  pub rooms : HasSameRooms first work paid_first made

-- passing over operations is going on after them
passing : (fuzzy : IsFuzzy) (t : List ℕ) (ops : List Op) (at past : ℕ) (s : State) → exec fuzzy t ops at past s ≡ exec fuzzy t (drop past ops) (at + past) 0 s
passing fuzzy t [] at zero s = refl
passing fuzzy t [] at (suc past) s = refl
passing fuzzy t (first ∷ rest) at zero s = let e : at ≡ at + 0 = omega arith in ap (λ n. exec fuzzy t (first ∷ rest) n 0 s) e
passing fuzzy t (first ∷ rest) at (suc past) s =
    let e : at + 1 + past ≡ at + suc past = omega arith in
    passing fuzzy t rest (at + 1) past s ∙ ap (λ n. exec fuzzy t (drop past rest) n 0 s) e

-- what is left after an operation
left_after : (ops : List Op) (at past : ℕ) → drop past (drop (at + 1) ops) ≡ drop (at + (1 + past)) ops
left_after ops at past = let e : at + 1 + past ≡ at + (1 + past) = omega arith in drop-drop past (at + 1) ops ∙ ap (λ n. drop n ops) e

-- what is done from an operation on
onward_from : (fuzzy : IsFuzzy) (t : List ℕ) (ops : List Op) (d : Op) (at : ℕ) (s : State) (x : Stepped) → at < length ops
    → x ≡ step fuzzy t (get_or ops at d) at (drop (at + 1) ops) s
    → exec fuzzy t (drop at ops) at 0 s ≡ onward x (λ past after. exec fuzzy t (drop (at + 1) ops) (at + 1) past after)
onward_from fuzzy t ops d at s x under is =
    ap (λ left. exec fuzzy t left at 0 s) (drop_more ops at d under)
    ∙ ap (λ y. onward y (λ past after. exec fuzzy t (drop (at + 1) ops) (at + 1) past after)) (sym is)

goes_from : (fuzzy : IsFuzzy) (t : List ℕ) (ops : List Op) (d : Op) (at past : ℕ) (s after : State) → at < length ops
    → stepped (Ok past) after ≡ step fuzzy t (get_or ops at d) at (drop (at + 1) ops) s
    → exec fuzzy t (drop at ops) at 0 s ≡ exec fuzzy t (drop (at + (1 + past)) ops) (at + (1 + past)) 0 after
goes_from fuzzy t ops d at past s after under is =
    let e : at + 1 + past ≡ at + (1 + past) = omega arith in
    onward_from fuzzy t ops d at s (stepped (Ok past) after) under is
    ∙ passing fuzzy t (drop (at + 1) ops) (at + 1) past after
    ∙ ap (λ left. exec fuzzy t left (at + 1 + past) 0 after) (left_after ops at past)
    ∙ ap (λ n. exec fuzzy t (drop (at + (1 + past)) ops) n 0 after) e

-- what is passed over neither pays nor saves
fewer_pays : (ops : List Op) (past : ℕ) → pays_in (drop past ops) ≤ pays_in ops
fewer_pays [] zero = omega arith
fewer_pays [] (suc past) = omega arith
fewer_pays (first ∷ rest) zero = omega arith
fewer_pays (first ∷ rest) (suc past) = let later = fewer_pays rest past in omega arith

fewer_saved : (t : List ℕ) (at : ℕ) (ops : List Op) (past : ℕ) → saved_in t (at + past) (drop past ops) ≤ saved_in t at ops
fewer_saved t at [] zero = omega arith
fewer_saved t at [] (suc past) = omega arith
fewer_saved t at (first ∷ rest) zero =
    let e : saved_in t (at + 0) (first ∷ rest) ≡ saved_in t at (first ∷ rest) = ap (λ n. saved_in t n (first ∷ rest)) (omega arith) in omega (arith, e)
fewer_saved t at (first ∷ rest) (suc past) =
    let e : saved_in t (at + suc past) (drop past rest) ≡ saved_in t (at + 1 + past) (drop past rest) =
    ap (λ n. saved_in t n (drop past rest)) (omega arith) in
    let later = fewer_saved t (at + 1) rest past in omega (arith, e, later)

pub good_op : (ops : List Op) (at : ℕ) (d : Op) → AreGoodOps ops → at < length ops → IsGoodOp (get_or ops at d)
good_op [] at d h under = absurd (omega arith)
good_op (first ∷ rest) zero d h under = h.0
good_op (first ∷ rest) (suc at) d h under = good_op rest at d h.1 (omega arith)

-- an operation that goes on keeps what holds before each of them
pub keeps_underway : (program : Compiled) (cells : Row) (first : Work) (paid_first : RunPayments) (at past : ℕ) (op : Op) (before after : Work)
    (paid_before paid_after : RunPayments) → StepsAddAtMost → Underway program cells first paid_first at before paid_before → at < length program.code
    → op ≡ get_or program.code at op
    → stepped (Ok past) (state after paid_after program.dates cells)
    ≡ step program.fuzzy program.table op at (drop (at + 1) program.code) (state before paid_before program.dates cells)
    → Keeps before after paid_before paid_after
    → Underway program cells first paid_first (at + (1 + past)) after paid_after
keeps_underway program cells first paid_first at past op before after paid_before paid_after law so_far under stands is keeps =
    let t : List ℕ = program.table in
    let code : List Op = program.code in
    let rest : List Op = drop (at + 1) code in
    let old : State = state before paid_before program.dates cells in
    let new : State = state after paid_after program.dates cells in
    let here : drop at code ≡ op ∷ rest = drop_more code at op under ∙ ap (λ o. o ∷ rest) (sym stands) in
    let adds : AddsAtMost (pays_of op) (saved_of t op at rest) old new =
    subst (StepsWithin (pays_of op) (saved_of t op at rest) old) (sym is) (law program.fuzzy t op at rest old) in
    let left : drop past rest ≡ drop (at + (1 + past)) code = left_after code at past in
    let pays : pays_in (drop at code) ≡ pays_of op + pays_in rest = ap pays_in here in
    let fewer : pays_in (drop (at + (1 + past)) code) ≤ pays_in rest = subst (λ l. pays_in l ≤ pays_in rest) left (fewer_pays rest past) in
    let saves : saved_in t at (drop at code) ≡ saved_of t op at rest + saved_in t (at + 1) rest = ap (saved_in t at) here in
    let place : at + 1 + past ≡ at + (1 + past) = omega arith in
    let fewer_saves : saved_in t (at + (1 + past)) (drop (at + (1 + past)) code) ≤ saved_in t (at + 1) rest =
    subst (λ n. saved_in t n (drop (at + (1 + past)) code) ≤ saved_in t (at + 1) rest) place
    (subst (λ l. saved_in t (at + 1 + past) l ≤ saved_in t (at + 1) rest) left (fewer_saved t (at + 1) rest past)) in
    let kept_old : length (map paid paid_before.kept) ≡ length paid_before.kept = length-map paid_before.kept paid in
    let kept_new : length (map paid paid_after.kept) ≡ length paid_after.kept = length-map paid_after.kept paid in
    let fresh_old : length (map paid paid_before.fresh) ≡ length paid_before.fresh = length-map paid_before.fresh paid in
    let fresh_new : length (map paid paid_after.fresh) ≡ length paid_after.fresh = length-map paid_after.fresh paid in
    let frames_old : length (map begun before.frames.entries) ≡ length before.frames.entries = length-map before.frames.entries begun in
    let frames_new : length (map begun after.frames.entries) ≡ length after.frames.entries = length-map after.frames.entries begun in
    record {
      same =
          sym (goes_from program.fuzzy t code op at past old new under
          (is ∙ ap (λ o. step program.fuzzy t o at rest old) stands))
          ∙ so_far.same;
      numbers = let a = adds.numbers in let b = so_far.numbers in omega arith;
      weights = let a = adds.weights in let b = so_far.weights in omega arith;
      frames = let a = adds.frames in let b = so_far.frames in omega arith;
      saved = let a = adds.saved in let b = so_far.saved in let k = keeps.saved in omega arith;
      payments = let a = adds.payments in let b = so_far.payments in let k = keeps.payments in omega arith;
      nodes = let a = adds.nodes in let b = so_far.nodes in omega arith;
      event = let a = keeps.event in let b = so_far.event in omega arith;
      rooms = record {
        slots = adds.slots ∙ so_far.rooms.slots;
        numbers = keeps.numbers ∙ so_far.rooms.numbers;
        weights = keeps.weights ∙ so_far.rooms.weights;
        frames = keeps.frames ∙ so_far.rooms.frames;
        saved = keeps.saved ∙ so_far.rooms.saved;
        payments = keeps.payments ∙ so_far.rooms.payments;
      };
    }
