-- Flat code as it is made: operations are added at its end, and a target is set once the place that it names is known.
use Rattle.std.proofs.Common.{◌≡◌, ℕ, ◌+◌, Bool, List, [], ◌∷◌, ◌++◌, length, Option, Some, None, sym, ap, ◌∙◌, arith, append_assoc, length-append}
use Rattle.std.proofs.Math.ListN.{set}
use Rattle.std.proofs.Math.Seq.{set-append_seam}
use Rattle.std.proofs.lemmas.List.{append-nil}
use Rattle.pay_code.specs.declared.op.Op.{Op}
use Rattle.pay_code.specs.declared.op.Op.TheVariants as op
use Rattle.pay_code.specs.Flat.{surely_code, after_sides, two_parts, choice_code}

-- what a test is sure of comes last
pub sure_written : (told : Option Bool) (before code : List Op) → (before ++ code) ++ surely_code told [] ≡ before ++ surely_code told code
sure_written None before code = append-nil (before ++ code)
sure_written (Some answer) before code = append_assoc before code (op.Sure answer ∷ [])

-- two numbers and an operation
pub operands_written : (before left right : List Op) (last : Op)
    → ((before ++ left) ++ right) ++ (last ∷ []) ≡ before ++ (left ++ (right ++ (last ∷ [])))
operands_written before left right last =
    append_assoc (before ++ left) right (last ∷ []) ∙ append_assoc before left (right ++ (last ∷ []))

-- an operation after a piece of code is set
set_after : (part : List Op) (old new : Op) (rest : List Op) (at : ℕ) → at ≡ length part → set (part ++ (old ∷ rest)) at new ≡ part ++ (new ∷ rest)
set_after part old new rest at h = ap (λ n. set (part ++ (old ∷ rest)) n new) h ∙ set-append_seam part old rest new

-- so long is a piece with an operation after it
one_longer : (before part : List Op) (o : Op) → length ((before ++ part) ++ (o ∷ [])) ≡ length before + length part + 1
one_longer before part o = omega (arith, length-append (before ++ part) (o ∷ []), length-append before part)

-- two sides with a jump between them, past the operation after them, is set once both are there
pub sides_written : (old ops1 ops2 ops3 ops4 left : List Op) (right : ℕ → List Op) (skip : ℕ → Op) (join : Op) (jump : ℕ)
    → ops1 ≡ old ++ left → jump ≡ length ops1 → ops2 ≡ ops1 ++ (skip 0 ∷ []) → ops3 ≡ ops2 ++ right (length ops2)
    → ops4 ≡ set (ops3 ++ (join ∷ [])) jump (skip (length ops3 + 1))
    → ops4 ≡ old ++ (left ++ (skip (after_sides (length old) left (right (length old + length left + 1)))
    ∷ (right (length old + length left + 1) ++ (join ∷ []))))
sides_written old ops1 ops2 ops3 ops4 left right skip join jump first place second third fourth =
    let r = right (length old + length left + 1) in
    let begun : ops2 ≡ (old ++ left) ++ (skip 0 ∷ []) = second ∙ ap (λ xs. xs ++ (skip 0 ∷ [])) first in
    let start : length ops2 ≡ length old + length left + 1 = ap length begun ∙ one_longer old left (skip 0) in
    let both : ops3 ≡ (old ++ left) ++ (skip 0 ∷ r) =
    third ∙ (λ i. begun i ++ right (start i)) ∙ append_assoc (old ++ left) (skip 0 ∷ []) r in
    let whole : ops3 ++ (join ∷ []) ≡ (old ++ left) ++ (skip 0 ∷ (r ++ (join ∷ []))) =
    ap (λ xs. xs ++ (join ∷ [])) both ∙ append_assoc (old ++ left) (skip 0 ∷ r) (join ∷ []) in
    let to : length ops3 + 1 ≡ after_sides (length old) left r =
    omega (arith, ap length both, length-append (old ++ left) (skip 0 ∷ r), length-append old left) in
    fourth ∙ (λ i. set (whole i) jump (skip (to i)))
    ∙ set_after (old ++ left) (skip 0) (skip (after_sides (length old) left r)) (r ++ (join ∷ [])) jump (place ∙ ap length first)
    ∙ append_assoc old left (skip (after_sides (length old) left r) ∷ (r ++ (join ∷ [])))

-- a choice whose `If` and `Else` are set once both branches are there
pub choice_written : (old ops1 ops2 ops3 ops4 ops5 ops6 test : List Op) (yes_part no_part : ℕ → List Op) (choice turn first count : ℕ)
    → ops1 ≡ old ++ test → choice ≡ length ops1 → ops2 ≡ ops1 ++ (op.If 0 ∷ []) → ops3 ≡ ops2 ++ yes_part (length ops2)
    → turn ≡ length ops3 → ops4 ≡ set (ops3 ++ (op.Else 0 ∷ [])) choice (op.If (length ops3 + 1)) → ops5 ≡ ops4 ++ no_part (length ops4)
    → ops6 ≡ set ops5 turn (op.Else (length ops5)) ++ (op.EndIf first count ∷ [])
    → ops6 ≡ old ++ choice_code (length old) first count test yes_part no_part
choice_written old ops1 ops2 ops3 ops4 ops5 ops6 test yes_part no_part choice turn first count tested place begun_by yes_by turn_place turned_by no_by ended_by =
    let y = yes_part (length old + length test + 1) in
    let other = length old + length test + 1 + length y + 1 in
    let n = no_part other in
    let after = other + length n in
    let begun : ops2 ≡ (old ++ test) ++ (op.If 0 ∷ []) = begun_by ∙ ap (λ xs. xs ++ (op.If 0 ∷ [])) tested in
    let start : length ops2 ≡ length old + length test + 1 = ap length begun ∙ one_longer old test (op.If 0) in
    let chosen : ops3 ≡ (old ++ test) ++ (op.If 0 ∷ y) =
    yes_by ∙ (λ i. begun i ++ yes_part (start i)) ∙ append_assoc (old ++ test) (op.If 0 ∷ []) y in
    let long : length ops3 + 1 ≡ other = omega (arith, ap length chosen, length-append (old ++ test) (op.If 0 ∷ y), length-append old test) in
    let unended : ops3 ++ (op.Else 0 ∷ []) ≡ (old ++ test) ++ (op.If 0 ∷ (y ++ (op.Else 0 ∷ []))) =
    ap (λ xs. xs ++ (op.Else 0 ∷ [])) chosen ∙ append_assoc (old ++ test) (op.If 0 ∷ y) (op.Else 0 ∷ []) in
    let front = (old ++ test) ++ (op.If other ∷ y) in
    let turned : ops4 ≡ front ++ (op.Else 0 ∷ []) =
    turned_by ∙ (λ i. set (unended i) choice (op.If (long i)))
    ∙ set_after (old ++ test) (op.If 0) (op.If other) (y ++ (op.Else 0 ∷ [])) choice (place ∙ ap length tested)
    ∙ sym (append_assoc (old ++ test) (op.If other ∷ y) (op.Else 0 ∷ [])) in
    let front_long : length front + 1 ≡ other = omega (arith, length-append (old ++ test) (op.If other ∷ y), length-append old test) in
    let there : length ops4 ≡ other = omega (arith, ap length turned, length-append front (op.Else 0 ∷ []), front_long) in
    let whole : ops5 ≡ front ++ (op.Else 0 ∷ n) =
    no_by ∙ (λ i. turned i ++ no_part (there i)) ∙ append_assoc front (op.Else 0 ∷ []) n in
    let end : length ops5 ≡ after = omega (arith, ap length whole, length-append front (op.Else 0 ∷ n), front_long) in
    let turn_at : turn ≡ length front = omega (arith, turn_place, long, front_long) in
    let closed : set ops5 turn (op.Else (length ops5)) ≡ front ++ (op.Else after ∷ n) =
    (λ i. set (whole i) turn (op.Else (end i))) ∙ set_after front (op.Else 0) (op.Else after) n turn turn_at in
    let last = op.EndIf first count ∷ [] in
    ended_by ∙ ap (λ xs. xs ++ last) closed ∙ append_assoc front (op.Else after ∷ n) last
    ∙ append_assoc (old ++ test) (op.If other ∷ y) (op.Else after ∷ (n ++ last))
    ∙ append_assoc old test (op.If other ∷ (y ++ (op.Else after ∷ (n ++ last))))

-- a piece of code is added, and its part of the table: what is left begins after both
pub part_written : (ops further : List Op) (changed longer : List ℕ) (code : List Op) (table : List ℕ) (rest : ℕ → ℕ → List Op)
    → further ≡ ops ++ code → longer ≡ changed ++ table
    → ops ++ two_parts (length ops) code (λ there. rest there (length changed + length table)) ≡ further ++ rest (length further) (length longer)
part_written ops further changed longer code table rest added named =
    let place : length ops + length code ≡ length further = sym (ap length added ∙ length-append ops code) in
    let from : length changed + length table ≡ length longer = sym (ap length named ∙ length-append changed table) in
    sym (append_assoc ops code (rest (length ops + length code) (length changed + length table)))
    ∙ (λ i. sym added i ++ rest (place i) (from i))
