-- Raws that are passed on are the same raws.
use Rattle.std.proofs.Common.{◌≡◌, ℤ, FitsSigned, to_z, of_z, w64, ◌∙◌}
use Rattle.std.specs.Int.{w128}
use Rattle.std.proofs.lemmas.Int.{to_z-of_z}

-- a function of two raws
pub two_passed : {A : Type 0} (f : ℤ → ℤ → A) (r : A) (x y : ℤ) → FitsSigned w64 x → FitsSigned w64 y
    → r ≡ f (to_z w64 (of_z w64 x)) (to_z w64 (of_z w64 y)) → r ≡ f x y
two_passed f r x y g h e = e ∙ (λ i. f (to_z-of_z w64 x g i) (to_z-of_z w64 y h i))

-- a function of two wide numbers
pub two_wide_passed : {A : Type 0} (f : ℤ → ℤ → A) (r : A) (x y : ℤ) → FitsSigned w128 x → FitsSigned w128 y
    → r ≡ f (to_z w128 (of_z w128 x)) (to_z w128 (of_z w128 y)) → r ≡ f x y
two_wide_passed f r x y g h e = e ∙ (λ i. f (to_z-of_z w128 x g i) (to_z-of_z w128 y h i))

-- four wide numbers, of which each is known
pub four_passed : (f : ℤ → ℤ → ℤ → ℤ → ℤ) (r a b c d a2 b2 c2 d2 : ℤ)
    → FitsSigned w128 a → FitsSigned w128 b → FitsSigned w128 c → FitsSigned w128 d
    → r ≡ f (to_z w128 (of_z w128 a)) (to_z w128 (of_z w128 b)) (to_z w128 (of_z w128 c)) (to_z w128 (of_z w128 d))
    → a ≡ a2 → b ≡ b2 → c ≡ c2 → d ≡ d2 → r ≡ f a2 b2 c2 d2
four_passed f r a b c d a2 b2 c2 d2 k l m n e p q s t =
    e ∙ (λ i. f (to_z-of_z w128 a k i) (to_z-of_z w128 b l i) (to_z-of_z w128 c m i) (to_z-of_z w128 d n i)) ∙ (λ i. f (p i) (q i) (s i) (t i))
