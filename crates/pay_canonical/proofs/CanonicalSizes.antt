-- No canonical token is too large.
use Rattle.std.proofs.Common.{◌≡◌, ℕ, ◌*◌, ◌≤◌, nat_lt, nat_le, Bool, false, ◌&&◌, not, List, [], ◌∷◌, ◌++◌, length, ℤ, pos, None, refl, arith, length-append}
use Rattle.std.proofs.lemmas.Bool.{and_parts, leb-true}
use Rattle.std.proofs.lemmas.Bool.Decides.{nat_tests}
use Rattle.std.specs.Fmt.{decimal}
use Rattle.pay_dates.specs.declared.roll.Rule.{Rule}
use Rattle.pay_dates.specs.declared.roll.Rule.TheVariants.{Stay, Following, Preceding, Modified}
use Rattle.pay_dates.specs.declared.roll.Unit.{Unit as StepUnit}
use Rattle.pay_dates.specs.declared.roll.Unit.TheVariants.{Days, Weeks, Months, Years}
use Rattle.pay_fixed.specs.Round.{IsRaw}
use Rattle.pay_fixed.specs.Grammar.{SpellsSign, no_sign, SpellsFraction, no_fraction, point}
use Rattle.pay_fixed.specs.Grammar.SpellsSign.{plus as plus_before, minus as minus_before}
use Rattle.pay_fixed.specs.Decimal.{decimal_of, decimal_text, sign_text, point_text}
use Rattle.pay_fixed.proofs.Text.{text-spells, reads_back}
use Rattle.pay_lexer.specs.declared.token.Key.TheVariants as key
use Rattle.pay_lexer.specs.declared.token.Token.{Token}
use Rattle.pay_lexer.specs.declared.token.TokenKind.{TokenKind}
use Rattle.pay_lexer.specs.declared.token.TokenKind.TheVariants as token
use Rattle.pay_meaning.specs.Language.{Operator, add, subtract, multiply, divide, least, greatest, Number, literal, variable, spot, period, days}
use Rattle.pay_meaning.specs.Language.{negative, absolute, binary, Condition, compare, negation, conjunction, disjunction, settled, sure, Statement}
use Rattle.pay_meaning.specs.Language.{assign, pay, choose, group, Body, done, next, Terms, Item, plain, scheduled, Script}
use Rattle.pay_meaning.specs.Words.{is_lower_word, is_keyword, is_name, IsName, unit_word}
use Rattle.pay_text.specs.Text.{unless_empty}
use Rattle.pay_grammar.specs.Grammar.{rule_tokens, schedule_tokens}
use Rattle.pay_grammar.specs.TokenLimits.{kinds, is_too_large, first_too_large}
use Rattle.pay_canonical.proofs.CanonicalTokens.{IsWritten, IsWrittenCondition, IsWrittenStatement, IsWrittenBody, IsWrittenItem, IsWrittenScript}
use Rattle.pay_canonical.proofs.CanonicalTokens.{binary_tokens, number_tokens, condition_tokens, statement_tokens, body_tokens, item_tokens, script_tokens}
use Rattle.pay_canonical.proofs.CanonicalTokens.{count_text}

-- none of these tokens is too large
abbrev NoneTooLarge : List TokenKind → Type 0
NoneTooLarge [] = Unit {0}
NoneTooLarge (t ∷ ts) = (is_too_large t ≡ false) × NoneTooLarge ts

none_in_row : (ts us : List TokenKind) → NoneTooLarge ts → NoneTooLarge us → NoneTooLarge (ts ++ us)
none_in_row [] us h k = k
none_in_row (t ∷ ts) us h k = (h.0, none_in_row ts us h.1 k)

point_length : (text ds : List ℕ) → SpellsFraction text ds → length (point_text ds) ≤ length text
point_length _ _ no_fraction = omega arith
point_length _ _ (point [] h) = omega arith
point_length _ _ (point (d ∷ ds) h) = omega arith

sign_length : (sign : List ℕ) (below : Bool) → SpellsSign sign below → length (sign_text below) ≤ length sign
sign_length _ _ no_sign = omega arith
sign_length _ _ plus_before = omega arith
sign_length _ _ minus_before = omega arith

-- the text of a number within the limit has at most 40 bytes
text_short : (raw : ℤ) → IsRaw raw → length (decimal_text raw) ≤ 40
unfolding decimal_text
text_short raw h =
    let d = decimal_of raw in
    let s = text-spells raw h in
    let sign = sign_length s.sign d.negative s.spells_sign in
    let fraction = point_length s.fraction d.fraction s.spells_fraction in
    omega (arith, s.short, sign, fraction, length-append {A = ℕ})

few_bytes : (n most : ℕ) → n ≤ most → nat_lt most n ≡ false
few_bytes n most h = grind (arith, nat_tests)

literal_small : (raw : ℤ) → IsRaw raw → is_too_large (token.Number (decimal_text raw)) ≡ false
literal_small raw h =
    let short = few_bytes (length (decimal_text raw)) 40 (text_short raw h) in
    let back = reads_back raw h in
    rw (short, back) refl

word_small : (name : List ℕ) → IsName name → is_too_large (token.Word name) ≡ false
unfolding is_name
word_small name h =
    let parts = and_parts (nat_le (length name) 64 && is_lower_word name) (not (is_keyword name)) h in
    let short = leb-true (length name) 64 (and_parts (nat_le (length name) 64) (is_lower_word name) parts.0).0 in
    few_bytes (length name) 64 short

binary_small : (op : Operator) (ts us : List TokenKind) → NoneTooLarge ts → NoneTooLarge us → NoneTooLarge (binary_tokens op ts us)
binary_small add ts us h k = (refl, none_in_row _ _ (none_in_row ts _ h (refl, k)) (refl, tt))
binary_small subtract ts us h k = (refl, none_in_row _ _ (none_in_row ts _ h (refl, k)) (refl, tt))
binary_small multiply ts us h k = (refl, none_in_row _ _ (none_in_row ts _ h (refl, k)) (refl, tt))
binary_small divide ts us h k = (refl, none_in_row _ _ (none_in_row ts _ h (refl, k)) (refl, tt))
binary_small least ts us h k = (refl, (refl, none_in_row _ _ (none_in_row ts _ h (refl, k)) (refl, tt)))
binary_small greatest ts us h k = (refl, (refl, none_in_row _ _ (none_in_row ts _ h (refl, k)) (refl, tt)))

number_small : (n : Number) → IsWritten n → NoneTooLarge (number_tokens n)
number_small (literal raw) h = (literal_small raw h.1, tt)
number_small (variable name) h = (word_small name h, tt)
number_small spot h = (refl, (refl, (refl, tt)))
number_small period h = (refl, (refl, (refl, tt)))
number_small days h = (refl, (refl, (refl, tt)))
number_small (negative side) h = (refl, number_small side h)
number_small (absolute side) h = (refl, (refl, none_in_row _ _ (number_small side h) (refl, tt)))
number_small (binary op left right) h = binary_small op _ _ (number_small left h.0) (number_small right h.1)

condition_small : (c : Condition) → IsWrittenCondition c → NoneTooLarge (condition_tokens c)
condition_small (compare op left right note) h = none_in_row _ _ (number_small left h.0) (refl, number_small right h.1)
condition_small (negation side) h = (refl, condition_small side h)
condition_small (conjunction left right) h =
    (refl, none_in_row _ _ (none_in_row _ _ (condition_small left h.0) (refl, condition_small right h.1)) (refl, tt))
condition_small (disjunction left right) h =
    (refl, none_in_row _ _ (none_in_row _ _ (condition_small left h.0) (refl, condition_small right h.1)) (refl, tt))
condition_small (settled answer) h = absurd h
condition_small (sure answer side) h = absurd h

else_small : (b : Body) → NoneTooLarge (body_tokens b) → NoneTooLarge (unless_empty b (token.Key key.Else ∷ body_tokens b))
else_small done h = tt
else_small (next statement rest) h = (refl, h)

mutual
  statement_small : (s : Statement) → IsWrittenStatement s → NoneTooLarge (statement_tokens s)
  statement_small (assign name number) h = (word_small name h.0, (refl, none_in_row _ _ (number_small number h.1) (refl, tt)))
  statement_small (pay leg number) h = (word_small leg h.0, (refl, none_in_row _ _ (number_small number h.1) (refl, tt)))
  statement_small (choose c a b) h =
      let others = none_in_row _ (token.Key key.Endif ∷ []) (else_small b (body_small b h.2)) (refl, tt) in
      (refl, none_in_row _ _ (condition_small c h.0) (refl, none_in_row _ _ (body_small a h.1) others))
  statement_small (group body) h = absurd h

  body_small : (b : Body) → IsWrittenBody b → NoneTooLarge (body_tokens b)
  body_small done h = tt
  body_small (next statement rest) h = none_in_row _ _ (statement_small statement h.0) (body_small rest h.1)

count_small : (n : ℕ) → IsRaw (pos (n * 10_000)) → is_too_large (token.Number (decimal n)) ≡ false
count_small n h = rw (count_text n) at (literal_small (pos (n * 10_000)) h)

unit_small : (unit : StepUnit) → is_too_large (token.Word (unit_word unit)) ≡ false
unit_small Days = refl
unit_small Weeks = refl
unit_small Months = refl
unit_small Years = refl

rule_small : (rule : Rule) → NoneTooLarge (rule_tokens rule ++ token.Key key.Do ∷ [])
rule_small Stay = (refl, tt)
rule_small Following = (refl, (refl, tt))
rule_small Preceding = (refl, (refl, tt))
rule_small Modified = (refl, (refl, tt))

header_small : (terms : Terms) → IsRaw (pos (terms.every * 10_000)) → NoneTooLarge (schedule_tokens terms (decimal terms.every))
header_small terms h =
    (refl, (refl, (refl, (refl, (refl, (refl, (count_small terms.every h, (unit_small terms.unit, rule_small terms.rule))))))))

item_small : (i : Item) → IsWrittenItem i → NoneTooLarge (item_tokens i)
item_small (plain date body) h = (refl, body_small body h.1)
item_small (scheduled terms body) h =
    none_in_row (schedule_tokens terms (decimal terms.every)) _ (header_small terms h.2)
    (none_in_row (body_tokens body) (token.Key key.End ∷ []) (body_small body h.3) (refl, tt))

script_small : (s : Script) → IsWrittenScript s → NoneTooLarge (script_tokens s)
script_small [] h = tt
script_small (item ∷ rest) h = none_in_row _ _ (item_small item h.0) (script_small rest h.1)

none_found : (tokens : List Token) → NoneTooLarge (kinds tokens) → first_too_large tokens ≡ None
none_found [] h = refl
none_found (t ∷ rest) h = rw h.0 (none_found rest h.1)

-- none of a script's canonical tokens is too large
pub canonical_small : (tokens : List Token) (s : Script) → kinds tokens ≡ script_tokens s → IsWrittenScript s → first_too_large tokens ≡ None
canonical_small tokens s e h = none_found tokens (rw e (script_small s h))
