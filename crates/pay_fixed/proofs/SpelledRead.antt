-- What a text spells is read.
use Rattle.std.proofs.Common.{◌≡◌, ℕ, ◌+◌, ◌≤◌, ◌==◌, Bool, true, false, inl, inr, List, [], ◌∷◌, ◌++◌}
use Rattle.std.proofs.Common.{length, ℤ, pos, Some, refl, ◌∙◌, ap, arith, append_assoc, length-append, le-leb}
use Rattle.std.specs.Prelude.{◌||◌, nat_le}
use Rattle.std.proofs.lemmas.Bool.Decides.{nat_tests}
use Rattle.pay_fixed.specs.declared.NumberFault.TheVariants.{TooLarge}
use Rattle.pay_fixed.specs.Round.{limited}
use Rattle.pay_fixed.specs.Grammar.{Decimal, IsBlank, IsDigit, IsPowerSign, AreBlanks, AreDigits, IsNumeral, number, signed, SpellsSign, no_sign}
use Rattle.pay_fixed.specs.Grammar.{plus, minus, SpellsFraction, no_fraction, point, SpellsExponent, no_exponent, power, SpellsDecimal, raw_of}
use Rattle.pay_fixed.specs.Reading.{is_blank, is_digit, is_power_sign, after_blanks, all_blank, digits_at, after_digits, has_minus, after_sign}
use Rattle.pay_fixed.specs.Reading.{only_power, with_fraction, with_whole, with_sign, power_at, exponent_at, fraction_at, unsigned_at, signed_at}
use Rattle.pay_fixed.specs.Decimal.{decimal_in}

-- the text does not begin with a byte of which the test is true
abbrev StartsWithout : (ℕ → Bool) → List ℕ → Type 0
StartsWithout p [] = Unit {0}
StartsWithout p (c ∷ cs) = p c ≡ false

abbrev is_sign : ℕ → Bool
is_sign c = (c == 43) || (c == 45)

abbrev is_point : ℕ → Bool
is_point c = c == 46

digit-test : (c : ℕ) → IsDigit c → is_digit c ≡ true
digit-test c h = grind (arith, nat_tests)

digit-no-sign : (c : ℕ) → IsDigit c → is_sign c ≡ false
digit-no-sign c h = grind (arith, nat_tests)

digit-no-blank : (c : ℕ) → IsDigit c → is_blank c ≡ false
digit-no-blank c h = grind (arith, nat_tests)

no-minus : (c : ℕ) → is_sign c ≡ false → (c == 45) ≡ false
no-minus c h = grind (arith, nat_tests)

greedy : (ds t : List ℕ) → AreDigits ds → StartsWithout is_digit t → digits_at (ds ++ t) ≡ ds
greedy [] [] h k = refl
greedy [] (c ∷ cs) h k = rw k refl
greedy (d ∷ ds) t h k = rw (digit-test d h.0) (ap (λ xs. d ∷ xs) (greedy ds t h.1 k))

after-greedy : (ds t : List ℕ) → AreDigits ds → StartsWithout is_digit t → after_digits (ds ++ t) ≡ t
after-greedy [] [] h k = refl
after-greedy [] (c ∷ cs) h k = rw k refl
after-greedy (d ∷ ds) t h k = rw (digit-test d h.0) (after-greedy ds t h.1 k)

blanks-without : (p : ℕ → Bool) → p 32 ≡ false → p 9 ≡ false → (t : List ℕ) → AreBlanks t → StartsWithout p t
blanks-without p space tab [] h = tt
blanks-without p space tab (c ∷ cs) h = elim h.0 [ inl is ↦ rw is space | inr is ↦ rw is tab ]

exponent-without : (p : ℕ → Bool) → p 32 ≡ false → p 9 ≡ false → p 101 ≡ false → p 69 ≡ false
    → (x rest : List ℕ) (z : ℤ) → SpellsExponent x z → AreBlanks rest → StartsWithout p (x ++ rest)
exponent-without p space tab small large x rest z no_exponent h = blanks-without p space tab rest h
exponent-without p space tab small large x rest z (power letter _ _ _ l _ _ _) h = elim l [ inl is ↦ rw is small | inr is ↦ rw is large ]

digits-without : (p : ℕ → Bool) → ((c : ℕ) → IsDigit c → p c ≡ false) → (ds t : List ℕ) → IsNumeral ds → StartsWithout p (ds ++ t)
digits-without p f [] t h = absurd (omega arith)
digits-without p f (d ∷ ds) t h = f d h.1.0

-- the sign of a text that goes on without another
pub record SignIs (t : List ℕ) (negative : Bool) (rest : List ℕ) : Type 0 where
  pub minus_is : has_minus t ≡ negative
  pub rest_is : after_sign t ≡ rest

sign-complete : (s : List ℕ) (negative : Bool) → SpellsSign s negative → (t : List ℕ) → StartsWithout is_sign t → SignIs (s ++ t) negative t
sign-complete s negative no_sign [] h = record { minus_is = refl; rest_is = refl }
sign-complete s negative no_sign (c ∷ cs) h = record { minus_is = no-minus c h; rest_is = rw h refl }
sign-complete s negative plus t h = record { minus_is = refl; rest_is = refl }
sign-complete s negative minus t h = record { minus_is = refl; rest_is = refl }

power-complete : (negative : Bool) (ds rest : List ℕ) → IsNumeral ds → length ds ≤ 2 → AreBlanks rest
    → power_at negative (ds ++ rest) ≡ Some (only_power (signed negative (number ds)) rest)
power-complete negative ds rest n few h =
    let stop : StartsWithout is_digit rest = blanks-without is_digit refl refl rest h in
    let low : nat_le 1 (length ds) ≡ true = le-leb 1 (length ds) n.0 in
    let high : nat_le (length ds) 2 ≡ true = le-leb (length ds) 2 few in
    rw (greedy ds rest n.1 stop, after-greedy ds rest n.1 stop, low, high) refl

exponent-none : (t : List ℕ) → StartsWithout is_power_sign t → exponent_at t ≡ Some (only_power (pos 0) t)
exponent-none [] h = refl
exponent-none (c ∷ cs) h = rw h refl

power-test : (c : ℕ) → IsPowerSign c → is_power_sign c ≡ true
power-test c h = elim h [ inl is ↦ rw is refl | inr is ↦ rw is refl ]

exponent-complete : (x rest : List ℕ) (z : ℤ) → SpellsExponent x z → AreBlanks rest → exponent_at (x ++ rest) ≡ Some (only_power z rest)
exponent-complete x rest z no_exponent h = exponent-none rest (blanks-without is_power_sign refl refl rest h)
exponent-complete x rest z (power letter sign negative ds l s n few) h =
    let hit : is_power_sign letter ≡ true = power-test letter l in
    let k = sign-complete sign negative s (ds ++ rest) (digits-without is_sign digit-no-sign ds rest n) in
    rw (hit, append_assoc sign ds rest, k.minus_is, k.rest_is) (power-complete negative ds rest n few h)

fraction-none : (t : List ℕ) → StartsWithout is_point t → fraction_at t ≡ exponent_at t
fraction-none [] h = refl
fraction-none (c ∷ cs) h = rw h refl

fraction-complete : (f x rest ds : List ℕ) (z : ℤ) → SpellsFraction f ds → SpellsExponent x z → AreBlanks rest
    → fraction_at (f ++ (x ++ rest)) ≡ Some (with_fraction ds (only_power z rest))
fraction-complete f x rest ds z no_fraction e h =
    fraction-none (x ++ rest) (exponent-without is_point refl refl refl refl x rest z e h) ∙ exponent-complete x rest z e h
fraction-complete f x rest ds z (point _ n) e h =
    let stop : StartsWithout is_digit (x ++ rest) = exponent-without is_digit refl refl refl refl x rest z e h in
    let low : nat_le 1 (length ds) ≡ true = le-leb 1 (length ds) n.0 in
    rw (greedy ds (x ++ rest) n.1 stop, after-greedy ds (x ++ rest) n.1 stop, low, exponent-complete x rest z e h) refl

fraction-no-digit : (f x rest ds : List ℕ) (z : ℤ) → SpellsFraction f ds → SpellsExponent x z → AreBlanks rest → StartsWithout is_digit (f ++ (x ++ rest))
fraction-no-digit f x rest ds z no_fraction e h = exponent-without is_digit refl refl refl refl x rest z e h
fraction-no-digit f x rest ds z (point _ n) e h = refl

unsigned-complete : (w f x rest ds : List ℕ) (z : ℤ) → IsNumeral w → SpellsFraction f ds → SpellsExponent x z → AreBlanks rest
    → unsigned_at (w ++ (f ++ (x ++ rest))) ≡ Some (with_whole w (with_fraction ds (only_power z rest)))
unsigned-complete w f x rest ds z n g e h =
    let stop : StartsWithout is_digit (f ++ (x ++ rest)) = fraction-no-digit f x rest ds z g e h in
    let low : nat_le 1 (length w) ≡ true = le-leb 1 (length w) n.0 in
    rw (greedy w (f ++ (x ++ rest)) n.1 stop, after-greedy w (f ++ (x ++ rest)) n.1 stop, low, fraction-complete f x rest ds z g e h) refl

signed-complete : (s w f x rest ds : List ℕ) (negative : Bool) (z : ℤ)
    → SpellsSign s negative → IsNumeral w → SpellsFraction f ds → SpellsExponent x z → AreBlanks rest
    → signed_at (s ++ (w ++ (f ++ (x ++ rest)))) ≡ Some (with_sign negative (with_whole w (with_fraction ds (only_power z rest))))
signed-complete s w f x rest ds negative z g n k e h =
    let t = w ++ (f ++ (x ++ rest)) in
    let i = sign-complete s negative g t (digits-without is_sign digit-no-sign w (f ++ (x ++ rest)) n) in
    rw (i.minus_is, i.rest_is, unsigned-complete w f x rest ds z n k e h) refl

after_blanks-stop : (t : List ℕ) → StartsWithout is_blank t → after_blanks t ≡ t
after_blanks-stop [] h = refl
after_blanks-stop (c ∷ cs) h = rw h refl

blank-test : (c : ℕ) → IsBlank c → is_blank c ≡ true
blank-test c h = elim h [ inl is ↦ rw is refl | inr is ↦ rw is refl ]

after_blanks-complete : (b t : List ℕ) → AreBlanks b → StartsWithout is_blank t → after_blanks (b ++ t) ≡ t
after_blanks-complete [] t h k = after_blanks-stop t k
after_blanks-complete (c ∷ cs) t h k = rw (blank-test c h.0) (after_blanks-complete cs t h.1 k)

all_blank-complete : (t : List ℕ) → AreBlanks t → all_blank t ≡ true
all_blank-complete [] h = refl
all_blank-complete (c ∷ cs) h = rw (blank-test c h.0, all_blank-complete cs h.1) refl

sign-no-blank : (s t : List ℕ) (negative : Bool) → SpellsSign s negative → StartsWithout is_blank t → StartsWithout is_blank (s ++ t)
sign-no-blank s t negative no_sign h = h
sign-no-blank s t negative plus h = refl
sign-no-blank s t negative minus h = refl

-- the answer for a text that spells a decimal
pub spelled-read : (bytes : List ℕ) (d : Decimal) → SpellsDecimal bytes d → decimal_in bytes ≡ limited TooLarge (raw_of d)
unfolding decimal_in
spelled-read bytes d p =
    let rest = p.fraction ++ (p.exponent ++ p.after) in
    let t = p.sign ++ (d.whole ++ rest) in
    let joined : bytes ≡ p.before ++ t = p.cut ∙ simp append_assoc in
    let whole_clear : StartsWithout is_blank (d.whole ++ rest) = digits-without is_blank digit-no-blank d.whole rest p.spells_whole in
    let clear : StartsWithout is_blank t = sign-no-blank p.sign (d.whole ++ rest) d.negative p.spells_sign whole_clear in
    let text : after_blanks bytes ≡ t = rw joined (after_blanks-complete p.before t p.blank_before clear) in
    let read = signed-complete p.sign d.whole p.fraction p.exponent p.after d.fraction d.negative d.exponent
    p.spells_sign p.spells_whole p.spells_fraction p.spells_exponent p.blank_after in
    let few : length t ≤ length p.after + 40 = simp length-append (omega (arith, simp length-append at p.short)) in
    rw (text, read, all_blank-complete p.after p.blank_after, le-leb (length t) (length p.after + 40) few) refl
