-- Marks that are put, and those of two lists of parts.
use Rattle.std.proofs.Common.{◌≡◌, ◌≢◌, ℕ, ◌<◌, ◌≤◌, zero, suc, length, Bool, true, false, nat_eq, List, [], ◌∷◌, ◌++◌, get_or, set, take}
use Rattle.std.proofs.Common.{if◌then◌else◌, ◌⊎◌, inl, inr, refl, ap, sym, ◌∙◌, arith}
use Rattle.std.specs.Prelude.{replicate}
use Rattle.std.proofs.lemmas.Bool.{cases_Bool}
use Rattle.std.proofs.lemmas.Bool.Decides.{nat_tests}
use Rattle.std.proofs.lemmas.List.{get_or-set_same, get_or-set_other, take_all}
use Rattle.pay_tree.specs.declared.tree.Binary.{Binary}
use Rattle.pay_tree.specs.declared.tree.Unary.{Unary}
use Rattle.pay_tree.specs.Views.{operator}
use Rattle.pay_tree.specs.Owned.{NumberTree, unary_at, binary_at}
use Rattle.pay_facts.specs.Ranges.{Range, range_of_one, range_of_both}
use Rattle.pay_facts.specs.SlotFacts.{SlotDomains, signed_domain, range_by_slots}
use Rattle.pay_facts.specs.Reached.{Part, number_found, number_parts, own_number}
use Rattle.pay_analysis.specs.declared.marks.Mark.{Mark}
use Rattle.pay_analysis.specs.declared.marks.Mark.TheVariants.{Unreached}
use Rattle.pay_analysis.specs.Marks.{marks_at, put_mark, marked, mark_of}

put-by : (ms : List Mark) (id : ℕ) (mark : Mark) (other : ℕ) → id < length ms → (nat_eq other id ≡ true) ⊎ (nat_eq other id ≡ false)
    → get_or (set ms id mark) other Unreached ≡ (if nat_eq other id then mark else get_or ms other Unreached)
put-by ms id mark other h (inl t) =
    let same : other ≡ id = grind (arith, nat_tests) in rw (t, same) (get_or-set_same ms id mark Unreached h)
put-by ms id mark other h (inr f) =
    let apart : other ≢ id = grind (arith, nat_tests) in rw f (get_or-set_other ms id other mark Unreached apart)

-- a mark that is written at a place
pub put_at : (ms : List Mark) (id : ℕ) (mark : Mark) → id < length ms → marks_at (set ms id mark) ≡ put_mark (marks_at ms) id mark
put_at ms id mark h i other = put-by ms id mark other h (cases_Bool (nat_eq other id)) i

unreached-place : (n other : ℕ) → get_or (replicate n Unreached) other Unreached ≡ Unreached
unreached-place zero other = refl
unreached-place (suc n) zero = refl
unreached-place (suc n) (suc other) = unreached-place n other

padded-place : (ms : List Mark) (n other : ℕ) → get_or (ms ++ replicate n Unreached) other Unreached ≡ get_or ms other Unreached
padded-place [] n other = unreached-place n other
padded-place (m ∷ ms) n zero = refl
padded-place (m ∷ ms) n (suc other) = padded-place ms n other

-- places past the end have no mark
pub grown_marks : (ms : List Mark) (n more : ℕ) → length ms ≤ n → marks_at (take n ms ++ replicate more Unreached) ≡ marks_at ms
grown_marks ms n more h = ap (λ front. marks_at (front ++ replicate more Unreached)) (take_all n ms h) ∙ (λ i other. padded-place ms more other i)

-- the marks of two lists of parts, one after the other
pub marked_append : (m : ℕ → Mark) (a b : List Part) → marked m (a ++ b) ≡ marked (marked m a) b
marked_append m [] b = refl
marked_append m (part ∷ rest) b = marked_append (put_mark m part.id (mark_of part.found)) rest b

-- the marks of a number after its sides
pub unary_marked : (n : NumberTree) (id : ℕ) (op : Unary) (side : NumberTree) (domains : SlotDomains) (known : Bool) (r : Range) (m0 m1 m2 : ℕ → Mark)
    → n ≡ unary_at id op side → r ≡ range_of_one (signed_domain op) (range_by_slots side domains known)
    → m1 ≡ marked m0 (number_parts side domains known) → m2 ≡ put_mark m1 id (mark_of (number_found r)) → m2 ≡ marked m0 (number_parts n domains known)
unary_marked n id op side domains known r m0 m1 m2 is ranged first last =
    last ∙ (λ i. put_mark (first i) id (mark_of (number_found (ranged i))))
    ∙ sym (marked_append m0 (number_parts side domains known) (own_number (unary_at id op side) domains known id))
    ∙ ap (λ number. marked m0 (number_parts number domains known)) (sym is)

-- marks of two lists of parts and then of one part
pub three_marked : (m : ℕ → Mark) (a b : List Part) (part : Part)
    → put_mark (marked (marked m a) b) part.id (mark_of part.found) ≡ marked m (a ++ (b ++ (part ∷ [])))
three_marked m a b part = sym (marked_append m a (b ++ (part ∷ [])) ∙ marked_append (marked m a) b (part ∷ []))

pub binary_marked : (n : NumberTree) (id : ℕ) (op : Binary) (left right : NumberTree) (domains : SlotDomains) (known between : Bool) (r : Range)
    (m0 m1 m2 m3 : ℕ → Mark) → n ≡ binary_at id op left right → between ≡ (range_by_slots left domains known).known
    → r ≡ range_of_both (operator op) (range_by_slots left domains known) (range_by_slots right domains between)
    → m1 ≡ marked m0 (number_parts left domains known) → m2 ≡ marked m1 (number_parts right domains between)
    → m3 ≡ put_mark m2 id (mark_of (number_found r)) → m3 ≡ marked m0 (number_parts n domains known)
binary_marked n id op left right domains known between r m0 m1 m2 m3 is here ranged first second last =
    let then_known = (range_by_slots left domains known).known in
    let whole : r ≡ range_by_slots (binary_at id op left right) domains known =
    ranged ∙ ap (λ k. range_of_both (operator op) (range_by_slots left domains known) (range_by_slots right domains k)) here in
    last ∙ (λ i. put_mark (second i) id (mark_of (number_found (whole i))))
    ∙ (λ i. put_mark (marked (first i) (number_parts right domains (here i))) id
    (mark_of (number_found (range_by_slots (binary_at id op left right) domains known))))
    ∙ three_marked m0 (number_parts left domains known) (number_parts right domains then_known)
    (record { id = id; found = number_found (range_by_slots (binary_at id op left right) domains known) })
    ∙ ap (λ number. marked m0 (number_parts number domains known)) (sym is)
