-- One step of the pass over pieces that are in order.
use Rattle.std.proofs.Common.{◌≡◌, ℕ, zero, suc, ◌+◌, ◌-◌, ◌<◌, ◌≤◌, nat_lt, Bool, true, false, not, ◌&&◌, ℤ, ◌↔◌}
use Rattle.std.proofs.Common.{List, [], ◌∷◌, ◌++◌, length, take, drop, get_or}
use Rattle.std.proofs.Common.{refl, sym, ap, ◌∙◌, arith, add-one, append_assoc, drop-cons, length-append}
use Rattle.std.proofs.Math.Seq.{take-length}
use Rattle.std.proofs.lemmas.Bool.Decides.{nat_tests}
use Rattle.pay_domains.specs.declared.piece.Piece.{Piece}
use Rattle.pay_domains.specs.Pieces.{Held, AreProper, touches, joined, capped, normal}
use Rattle.pay_domains.specs.Merging.{AreInOrder, merged}
use Rattle.pay_domains.proofs.NormalLemmas.{joined-same, merged-normal}

both-true : (a b : Bool) → (a && not b) ≡ true → (a ≡ true) × (b ≡ false)
both-true true true h = cc
both-true true false h = (refl, refl)
both-true false b h = cc

not-both : (a b : Bool) → a ≡ true → (a && not b) ≡ false → b ≡ true
not-both true true h k = refl
not-both true false h k = cc
not-both false b h k = cc

-- where there is room and no raw lies between them, the next one stands alone
alone : (p q : Piece) (rest : List Piece) (n room more : ℕ) → room + n ≡ 15 → more + (n + 1) ≡ 15 → (nat_lt n 15 && not (touches p q)) ≡ true
    → merged p (q ∷ rest) room ≡ p ∷ merged q rest more
alone p q rest n zero more e f h = absurd (omega arith)
alone p q rest n (suc room) more e f h =
    let same : room ≡ more = omega arith in
    rw (both-true (nat_lt n 15) (touches p q) h).1 (ap (λ m. p ∷ merged q rest m) same)

-- otherwise it is joined to the one before it
joins : (p q : Piece) (rest : List Piece) (n room : ℕ) → room + n ≡ 15 → (nat_lt n 15 && not (touches p q)) ≡ false
    → merged p (q ∷ rest) room ≡ merged (joined p q) rest room
joins p q rest n zero e h = refl
joins p q rest n (suc room) e h =
    let small : nat_lt n 15 ≡ true = grind (arith, nat_tests) in
    rw (not-both (nat_lt n 15) (touches p q) small h) refl

-- the list at a place
here : (xs : List Piece) (i : ℕ) (d : Piece) → i < length xs → drop i xs ≡ get_or xs i d ∷ drop (i + 1) xs
here xs i d h = rw add-one (drop-cons xs i d h)

-- the same beside what is done, at a place of the list
pub alone_at : (done xs : List Piece) (p d : Piece) (i : ℕ) (all : List Piece) → i < length xs
    → (nat_lt (length done) 15 && not (touches p (get_or xs i d))) ≡ true → done ++ merged p (drop i xs) (15 - length done) ≡ all
    → (length (done ++ p ∷ []) ≤ 15)
    × ((done ++ p ∷ []) ++ merged (get_or xs i d) (drop (i + 1) xs) (15 - length (done ++ p ∷ [])) ≡ all)
alone_at done xs p d i all in' h e =
    let small : length done < 15 = grind (arith, nat_tests, both-true (nat_lt (length done) 15) (touches p (get_or xs i d)) h) in
    let longer : length (done ++ p ∷ []) ≡ length done + 1 = length-append done (p ∷ []) in
    let step : merged p (drop i xs) (15 - length done) ≡ p ∷ merged (get_or xs i d) (drop (i + 1) xs) (15 - length (done ++ p ∷ [])) =
    ap (λ ys. merged p ys (15 - length done)) (here xs i d in')
    ∙ alone p (get_or xs i d) (drop (i + 1) xs) (length done) (15 - length done) (15 - length (done ++ p ∷ [])) (omega arith) (omega arith) h in
    (omega arith, append_assoc done (p ∷ []) _ ∙ ap (λ ys. done ++ ys) (sym step) ∙ e)

pub joins_at : (done xs : List Piece) (p d : Piece) (i : ℕ) (all : List Piece) → i < length xs → length done ≤ 15
    → (nat_lt (length done) 15 && not (touches p (get_or xs i d))) ≡ false → done ++ merged p (drop i xs) (15 - length done) ≡ all
    → done ++ merged (joined p (get_or xs i d)) (drop (i + 1) xs) (15 - length done) ≡ all
joins_at done xs p d i all in' few h e =
    let step : merged p (drop i xs) (15 - length done) ≡ merged (joined p (get_or xs i d)) (drop (i + 1) xs) (15 - length done) =
    ap (λ ys. merged p ys (15 - length done)) (here xs i d in')
    ∙ joins p (get_or xs i d) (drop (i + 1) xs) (length done) (15 - length done) (omega arith) h in
    ap (λ ys. done ++ ys) (sym step) ∙ e

-- pieces in order that hold what no piece holds
pub none_normal : (xs ys : List Piece) → AreProper xs → AreInOrder ys → ((x : ℤ) → Held x ys ↔ Held x xs) → length ys < 1 → [] ≡ normal xs
unfolding normal
none_normal xs [] h k same few = ap capped (joined-same xs [] h k same)
none_normal xs (p ∷ ps) h k same few = absurd (omega arith)

-- the pass over a first piece and those after it
pub some_normal : (xs ys : List Piece) (d : Piece) → AreProper xs → AreInOrder ys → ((x : ℤ) → Held x ys ↔ Held x xs) → 1 ≤ length ys
    → merged (get_or ys 0 d) (take (length ys - 1) (drop 1 ys)) 15 ≡ normal xs
some_normal xs [] d h k same few = absurd (omega arith)
some_normal xs (p ∷ ps) d h k same few =
    let all : take (length (p ∷ ps) - 1) ps ≡ ps = ap (λ n. take n ps) (omega arith) ∙ take-length ps in
    ap (λ rest. merged p rest 15) all ∙ merged-normal p xs ps h k same
