-- No comma and no line feed stands in a text that is read as a number.
use Rattle.std.proofs.Common.{◌≡◌, ◌≢◌, ℕ, Bool, inl, inr, List, [], ◌∷◌, ◌++◌, ℤ, arith}
use Rattle.std.specs.Prelude.{Ok}
use Rattle.std.specs.List.{All}
use Rattle.std.proofs.lemmas.List.Elements.{All-append, All-cons, All-nil}
use Rattle.pay_fixed.specs.Grammar.{Decimal, IsBlank, IsDigit, IsPowerSign, AreBlanks, AreDigits, SpellsSign, no_sign, plus}
use Rattle.pay_fixed.specs.Grammar.{minus, SpellsFraction, no_fraction, point, SpellsExponent, no_exponent, power, SpellsDecimal}
use Rattle.pay_fixed.specs.Decimal.{decimal_in}
use Rattle.pay_fixed.proofs.AsSpelled.{decimal_is_spelled}

-- neither a comma nor a line feed
abbrev pub IsPlain : ℕ → Type 0
IsPlain c = (c ≢ 44) × (c ≢ 10)

digit-plain : (c : ℕ) → IsDigit c → IsPlain c
digit-plain c h = (omega arith, omega arith)

from-digits : (ds : List ℕ) → AreDigits ds → All IsPlain ds
from-digits [] h = All-nil IsPlain
from-digits (d ∷ ds) h = All-cons IsPlain d ds (digit-plain d h.0) (from-digits ds h.1)

blank-plain : (c : ℕ) → IsBlank c → IsPlain c
blank-plain c h = elim h [ inl is ↦ (omega arith, omega arith) | inr is ↦ (omega arith, omega arith) ]

from-blanks : (t : List ℕ) → AreBlanks t → All IsPlain t
from-blanks [] h = All-nil IsPlain
from-blanks (c ∷ cs) h = All-cons IsPlain c cs (blank-plain c h.0) (from-blanks cs h.1)

from-sign : (s : List ℕ) (b : Bool) → SpellsSign s b → All IsPlain s
from-sign s b no_sign = All-nil IsPlain
from-sign s b plus = All-cons IsPlain 43 [] (omega arith, omega arith) (All-nil IsPlain)
from-sign s b minus = All-cons IsPlain 45 [] (omega arith, omega arith) (All-nil IsPlain)

from-fraction : (f ds : List ℕ) → SpellsFraction f ds → All IsPlain f
from-fraction f ds no_fraction = All-nil IsPlain
from-fraction f ds (point _ n) = All-cons IsPlain 46 ds (omega arith, omega arith) (from-digits ds n.1)

power-plain : (c : ℕ) → IsPowerSign c → IsPlain c
power-plain c h = elim h [ inl is ↦ (omega arith, omega arith) | inr is ↦ (omega arith, omega arith) ]

from-exponent : (x : List ℕ) (z : ℤ) → SpellsExponent x z → All IsPlain x
from-exponent x z no_exponent = All-nil IsPlain
from-exponent x z (power letter sign negative ds l s n few) =
    All-cons IsPlain letter (sign ++ ds) (power-plain letter l) (All-append IsPlain sign ds (from-sign sign negative s) (from-digits ds n.1))

-- a text that spells a decimal has no comma and no line feed
pub spelled-plain : (bytes : List ℕ) (d : Decimal) → SpellsDecimal bytes d → All IsPlain bytes
spelled-plain bytes d p =
    let digits = from-digits d.whole p.spells_whole.1 in
    let fraction = from-fraction p.fraction d.fraction p.spells_fraction in
    let exponent = from-exponent p.exponent d.exponent p.spells_exponent in
    let sign = from-sign p.sign d.negative p.spells_sign in
    let tail : List ℕ = p.fraction ++ p.exponent in
    let middle : All IsPlain (p.sign ++ (d.whole ++ tail)) =
    All-append IsPlain p.sign (d.whole ++ tail) sign (All-append IsPlain d.whole tail digits (All-append IsPlain p.fraction p.exponent fraction exponent)) in
    rw p.cut (All-append IsPlain p.before ((p.sign ++ (d.whole ++ tail)) ++ p.after) (from-blanks p.before p.blank_before)
    (All-append IsPlain (p.sign ++ (d.whole ++ tail)) p.after middle (from-blanks p.after p.blank_after)))

-- nor has a text that is read as a number
pub read-plain : (bytes : List ℕ) (z : ℤ) → decimal_in bytes ≡ Ok z → All IsPlain bytes
read-plain bytes z h =
    let w = (decimal_is_spelled bytes).number z in
    let s = w.0 h in
    spelled-plain bytes s.0 s.1
