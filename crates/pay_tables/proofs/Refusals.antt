-- Lists of refusals: which is the first, and what is so where there is none.
use Rattle.std.proofs.Common.{◌≡◌, ◌⊎◌, ◌↔◌, Bool, true, false, not, List, [], ◌∷◌, ◌++◌, Option, Some, None, Ok, Err, refl, ap, inl, inr}
use Rattle.std.proofs.lemmas.Bool.{not-false}
use Rattle.pay_roll.specs.Rolling.{first_of}
use Rattle.pay_tables.specs.Fields.{refused_if, unless}
use Rattle.pay_tables.specs.Views.{IsFirst, Refuses}
use Rattle.pay_tables.specs.declared.refusal.TableRefusal.{TableRefusal}
use Rattle.pay_tables.specs.declared.refusal.TableRefusal.TheVariants.{NoMemory}

-- where the front of a list has none, the first of all is that of the back
pub first_of-back : {A : Type 0} (front back : List (Option A)) → first_of front ≡ None → first_of (front ++ back) ≡ first_of back
first_of-back [] back none = refl
first_of-back (None ∷ front) back none = first_of-back front back none
first_of-back (Some first ∷ front) back none = cc

-- and else it is that of the front
pub first_of-front : {A : Type 0} (front back : List (Option A)) (first : A) → first_of front ≡ Some first → first_of (front ++ back) ≡ Some first
first_of-front [] back first is = cc
first_of-front (None ∷ front) back first is = first_of-front front back first is
first_of-front (Some other ∷ front) back first is = is

-- so what refuses the front refuses the whole
pub IsFirst-front : (front back : List (Option TableRefusal)) (refusal : TableRefusal) → IsFirst (first_of front) refusal
    → IsFirst (first_of (front ++ back)) refusal
IsFirst-front front back NoMemory is = tt
IsFirst-front front back refusal is = first_of-front front back refusal is

-- where a list has none, neither its first nor the others are one
pub none-cons : {A : Type 0} (first : Option A) (rest : List (Option A)) → first_of (first ∷ rest) ≡ None → (first ≡ None) × (first_of rest ≡ None)
none-cons None rest none = (refl, none)
none-cons (Some refusal) rest none = cc

-- where a list has none, neither its front nor its back has one
pub none-append : {A : Type 0} (front back : List (Option A)) → first_of (front ++ back) ≡ None → (first_of front ≡ None) × (first_of back ≡ None)
none-append [] back none = (refl, none)
none-append (None ∷ front) back none = none-append front back none
none-append (Some refusal ∷ front) back none = cc

-- the only one is the first
pub first_of-one : {A : Type 0} (only : Option A) → first_of (only ∷ []) ≡ only
first_of-one None = refl
first_of-one (Some refusal) = refl

-- the first of a list is the first of its front, or else of its back
pub some-append : {A : Type 0} (front back : List (Option A)) (refusal : A) → first_of (front ++ back) ≡ Some refusal
    → (first_of front ≡ Some refusal) ⊎ ((first_of front ≡ None) × (first_of back ≡ Some refusal))
some-append [] back refusal is = inr (refl, is)
some-append (None ∷ front) back refusal is = some-append front back refusal is
some-append (Some first ∷ front) back refusal is = inl is

-- where a test comes first, the first is that of the test where it is false, and of the rest where it is true
pub test-first : (test : Bool) (other : TableRefusal) (rest : List (Option TableRefusal)) (refusal : TableRefusal)
    → first_of (refused_if (not test) other ∷ rest) ≡ Some refusal
    → ((test ≡ false) × (other ≡ refusal)) ⊎ ((test ≡ true) × (first_of rest ≡ Some refusal))
test-first true other rest refusal is = inr (refl, is)
test-first false other rest refusal is = inl (refl, cc)

-- what is refused for a test is so where the test is true
pub refused_if-some : (test : Bool) (refusal found : TableRefusal) → refused_if test refusal ≡ Some found → (test ≡ true) × (refusal ≡ found)
refused_if-some false refusal found is = cc
refused_if-some true refusal found is = (refl, cc)

-- a test is false where nothing is refused for it
pub refused_if-none : (test : Bool) (refusal : TableRefusal) → refused_if test refusal ≡ None → test ≡ false
refused_if-none true refusal none = cc
refused_if-none false refusal none = refl

-- a test is true where nothing is refused for its want
pub refused_if-not-none : (test : Bool) (refusal : TableRefusal) → refused_if (not test) refusal ≡ None → test ≡ true
refused_if-not-none test refusal none = not-false test (refused_if-none (not test) refusal none)

-- what is read is the table, and nothing is refused
pub unless-ok : {A : Type 0} (refusal : Option TableRefusal) (table read : A) → unless refusal table ≡ Ok read → (refusal ≡ None) × (table ≡ read)
unless-ok None table read is = (refl, cc)
unless-ok (Some refusal) table read is = cc

-- records are refused exactly for what is refused first
pub unless-err : {A : Type 0} (found : Option TableRefusal) (table : A) (refusal : TableRefusal) → (unless found table ≡ Err refusal) ↔ (found ≡ Some refusal)
unless-err None table refusal = (λ is. cc, λ is. cc)
unless-err (Some first) table refusal = (λ is. cc, λ is. cc)

-- a file is refused for what is refused first
pub Refuses-unless : {A : Type 0} (found : Option TableRefusal) (table : A) (refusal : TableRefusal) → IsFirst found refusal
    → Refuses (unless found table) refusal
Refuses-unless found table NoMemory is = tt
Refuses-unless found table refusal is = ap (λ (first : Option TableRefusal). unless first table) is
