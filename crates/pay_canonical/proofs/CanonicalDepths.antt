-- The canonical tokens of a script pass no limit of depth, where some tokens that spell the script pass none.
use Rattle.std.proofs.Common.{◌≡◌, ℕ, zero, suc, ◌+◌, ◌≤◌, max, nat_lt, Bool, true, false, ◌||◌, List, [], ◌∷◌, ℤ, pos, negsuc, ◌+ℤ◌, ◌≤ℤ◌, int_lt}
use Rattle.std.proofs.Common.{Option, Some, None, if◌then◌else◌, inl, inr, refl, sym, ◌∙◌, arith}
use Rattle.std.proofs.lemmas.Bool.{cases_Bool, false≢true}
use Rattle.std.proofs.lemmas.Bool.Decides.{nat_tests}
use Rattle.std.proofs.lemmas.Int.{ints}
use Rattle.std.proofs.lemmas.Option.{none-some}
use Rattle.pay_lexer.specs.declared.token.Key.TheVariants as key
use Rattle.pay_lexer.specs.declared.token.Sign.TheVariants as sign
use Rattle.pay_lexer.specs.declared.token.Token.{Token}
use Rattle.pay_lexer.specs.declared.token.TokenKind.{TokenKind}
use Rattle.pay_lexer.specs.declared.token.TokenKind.TheVariants as token
use Rattle.pay_meaning.proofs.EventLaws.{lt-cases}
use Rattle.pay_meaning.specs.Language.{Script}
use Rattle.pay_grammar.specs.Grammar.{SpellsScript}
use Rattle.pay_grammar.specs.TokenLimits.{kinds, is_open_bracket, is_closing_bracket, is_operator, count, first_too_deep}
use Rattle.pay_grammar.specs.TokenDepths.{begins_after, Depths, nothing_counted, deeper, is_deep, first_deep}
use Rattle.pay_grammar.proofs.DepthLemmas.{first_deep_is}
use Rattle.pay_canonical.proofs.CanonicalTokens.{IsWrittenScript, script_tokens, script_spelled}
use Rattle.pay_canonical.proofs.OperatorCounts.{Role, opens, role, begins, Count, count as counts, one_if, counted_as, counted, count_all, total}
use Rattle.pay_canonical.proofs.OperatorCounts.{script_operators, script_counted}
use Rattle.pay_canonical.proofs.BracketCounts.{one_less, opened, StaysWithin, script_stays}
use Rattle.pay_canonical.proofs.IfMarks.{IfsWithin, if_marks, script_marks, ifs_to_marks, ifs_from_marks}

few : (n most : ℕ) → n ≤ most → nat_lt most n ≡ false
few n most h = grind (arith, nat_tests)

-- no limit of depth is passed with one of these tokens
abbrev Shallow : Depths → List TokenKind → Type 0
Shallow d [] = Unit {0}
Shallow d (t ∷ ts) = (is_deep (deeper d t) ≡ false) × Shallow (deeper d t) ts

none_then : (test : Bool) (t : Token) (others : Option Token) → (if test then Some t else others) ≡ None → (test ≡ false) × (others ≡ None)
none_then true t others e = absurd (none-some t (sym e))
none_then false t others e = (refl, e)

shallow_from : (tokens : List Token) (d : Depths) → first_deep d tokens ≡ None → Shallow d (kinds tokens)
shallow_from [] d e = tt
shallow_from (t ∷ rest) d e =
    let parts = none_then (is_deep (deeper d t.kind)) t (first_deep (deeper d t.kind) rest) e in
    (parts.0, shallow_from rest (deeper d t.kind) parts.1)

shallow_to : (tokens : List Token) (d : Depths) → Shallow d (kinds tokens) → first_deep d tokens ≡ None
shallow_to [] d h = refl
shallow_to (t ∷ rest) d h = rw h.0 (shallow_to rest (deeper d t.kind) h.1)

-- the three limits
record IsLow (d : Depths) : Type 0 where
  brackets : d.brackets ≤ℤ pos 100
  ifs : d.ifs ≤ℤ pos 96
  operators : d.operators ≤ 96

int_at_most : (n most : ℤ) → n ≤ℤ most → int_lt most n ≡ false
int_at_most n most h = elim (lt-cases most n) [ inl above ↦ absurd (omega (arith, ints, above.1)) | inr below ↦ below.0 ]

at_most_int : (n most : ℤ) → int_lt most n ≡ false → n ≤ℤ most
at_most_int n most h = elim (lt-cases most n) [ inl above ↦ absurd (false≢true (sym h ∙ above.0)) | inr below ↦ below.1 ]

at_most_nat : (n most : ℕ) → nat_lt most n ≡ false → n ≤ most
at_most_nat n most h = grind (arith, nat_tests)

three_false : (a b c : Bool) → (a || b || c) ≡ false → (a ≡ false) × (b ≡ false) × (c ≡ false)
three_false true b c h = absurd (false≢true (sym h))
three_false false true c h = absurd (false≢true (sym h))
three_false false false c h = (refl, refl, h)

low_from : (d : Depths) → is_deep d ≡ false → IsLow d
low_from d h =
    let parts = three_false (int_lt (pos 100) d.brackets) (int_lt (pos 96) d.ifs) (nat_lt 96 d.operators) h in
    record {
      brackets = at_most_int d.brackets (pos 100) parts.0;
      ifs = at_most_int d.ifs (pos 96) parts.1;
      operators = at_most_nat d.operators 96 parts.2;
    }

low_to : (d : Depths) → IsLow d → is_deep d ≡ false
low_to d h = rw (int_at_most d.brackets (pos 100) h.brackets, int_at_most d.ifs (pos 96) h.ifs, few d.operators 96 h.operators) refl

ifs_from : (ts : List TokenKind) (d : Depths) → Shallow d ts → IfsWithin (pos 96) d.ifs ts
ifs_from [] d h = tt
ifs_from (t ∷ ts) d h = ((low_from (deeper d t) h.0).ifs, ifs_from ts (deeper d t) h.1)

-- operators

-- the role of the last token, if there is one
abbrev role_of : Option TokenKind → Role
role_of None = opens
role_of (Some t) = role t

begins_by_role : (last : Option TokenKind) (t : TokenKind) → begins_after last t ≡ begins (role_of last) t
begins_by_role None t = refl
begins_by_role (Some (token.Date date)) t = refl
begins_by_role (Some (token.Number digits)) t = refl
begins_by_role (Some (token.Word letters)) t = refl
begins_by_role (Some (token.Sign sign.Plus)) t = refl
begins_by_role (Some (token.Sign sign.Minus)) t = refl
begins_by_role (Some (token.Sign s)) t = refl
begins_by_role (Some (token.Key key.If)) t = refl
begins_by_role (Some (token.Key k)) t = refl

operator_more : (t : TokenKind) (n : ℕ) → n + count is_operator (t ∷ []) ≡ one_if (is_operator t) n
operator_more t n = elim (cases_Bool (is_operator t)) [ inl hit ↦ rw hit (omega arith) | inr miss ↦ rw miss (omega arith) ]

-- the count of a place in the tokens, with so many operators in a stretch before
abbrev count_at : Depths → ℕ → Count
count_at d most = counts (role_of d.last) d.operators most

-- one token more, in both ways of counting
record Step (d : Depths) (t : TokenKind) (most : ℕ) : Type 0 where
  more : ℕ
  is : counted (count_at d most) t ≡ count_at (deeper d t) more
  low : most ≤ more
  high : more ≤ max most d.operators

one_step : (d : Depths) (t : TokenKind) (most : ℕ) → Step d t most
one_step d t most = elim (cases_Bool (begins_after d.last t)) [
  | inl hit ↦ record {
    more = max most d.operators;
    is = let begun = sym (begins_by_role d.last t) ∙ hit in rw (hit, begun, operator_more t 0) refl;
    low = omega arith;
    high = omega arith;
  }
  | inr miss ↦ record {
    more = most;
    is = let begun = sym (begins_by_role d.last t) ∙ miss in rw (miss, begun, operator_more t d.operators) refl;
    low = omega arith;
    high = omega arith;
  }
]

few_operators : (ts : List TokenKind) (d : Depths) (most : ℕ) → d.operators ≤ 96 → most ≤ 96 → Shallow d ts → total (count_all (count_at d most) ts) ≤ 96
few_operators [] d most low small h = omega arith
few_operators (t ∷ ts) d most low small h =
    let s = one_step d t most in
    let high = s.high in
    rw s.is (few_operators ts (deeper d t) s.more (low_from (deeper d t) h.0).operators (omega arith) h.1)

one_if_grows : (test : Bool) (n : ℕ) → n ≤ one_if test n
one_if_grows true n = omega arith
one_if_grows false n = omega arith

as_grows : (begun : Bool) (t : TokenKind) (here most : ℕ) → max most here ≤ total (counted_as begun t here most)
as_grows true t here most = omega arith
as_grows false t here most = let more = one_if_grows (is_operator t) here in omega arith

step_grows : (c : Count) (t : TokenKind) → total c ≤ total (counted c t)
step_grows (counts last here most) t = as_grows (begins last t) t here most

-- what was counted stays counted
total_grows : (ts : List TokenKind) (c : Count) → total c ≤ total (count_all c ts)
total_grows [] c = omega arith
total_grows (t ∷ ts) c = let here = step_grows c t in let later = total_grows ts (counted c t) in omega arith

-- brackets

less_one : (n : ℕ) (b : ℤ) → b ≤ℤ pos n → (b +ℤ negsuc 0) ≤ℤ pos (one_less n)
less_one zero b h = omega (arith, ints)
less_one (suc n) b h = omega (arith, ints)

bracket_more : (d : Depths) (t : TokenKind) (n : ℕ) → d.brackets ≤ℤ pos n → (deeper d t).brackets ≤ℤ pos (opened n t)
bracket_more d t n h = elim (cases_Bool (is_open_bracket t)) [
  | inl opens_one ↦ elim (cases_Bool (is_closing_bracket t)) [
    | inl closes_one ↦ rw (opens_one, closes_one) (omega (arith, ints))
    | inr closes_none ↦ rw (opens_one, closes_none) (omega (arith, ints))
  ]
  | inr opens_none ↦ elim (cases_Bool (is_closing_bracket t)) [
    | inl closes_one ↦ rw (opens_none, closes_one) (less_one n d.brackets h)
    | inr closes_none ↦ rw (opens_none, closes_none) (omega (arith, ints))
  ]
]

-- tokens that stay within each of the three limits
shallow_by : (ts : List TokenKind) (d : Depths) (most n : ℕ) → d.brackets ≤ℤ pos n → StaysWithin 100 n ts → IfsWithin (pos 96) d.ifs ts
    → total (count_all (count_at d most) ts) ≤ 96 → Shallow d ts
shallow_by [] d most n b brackets ifs operators = tt
shallow_by (t ∷ ts) d most n b brackets ifs operators =
    let s = one_step d t most in
    let later : total (count_all (count_at (deeper d t) s.more) ts) ≤ 96 = rw s.is at operators in
    let now = total_grows ts (count_at (deeper d t) s.more) in
    let more = bracket_more d t n b in
    let small = brackets.0 in
    let low : IsLow (deeper d t) = record { brackets = omega (arith, ints); ifs = ifs.0; operators = omega arith } in
    (low_to (deeper d t) low, shallow_by ts (deeper d t) s.more (opened n t) more brackets.1 ifs.1 later)

-- a script that tokens within the limits spell has canonical tokens within the limits
canonical_shallow : (ts : List TokenKind) (s : Script) → SpellsScript ts s → IsWrittenScript s → Shallow nothing_counted ts
    → Shallow nothing_counted (script_tokens s)
canonical_shallow ts s k h shallow =
    let us = script_tokens s in
    let spelled = script_spelled s h in
    let source = few_operators ts nothing_counted 0 (omega arith) (omega arith) shallow in
    let operators : script_operators s ≤ 96 = rw (script_counted ts s k) at source in
    let marks : if_marks ts ≡ if_marks us = script_marks ts s k ∙ sym (script_marks us s spelled) in
    let ifs : IfsWithin (pos 96) (pos 0) (if_marks us) = rw marks at (ifs_to_marks (pos 96) (pos 0) ts (ifs_from ts nothing_counted shallow)) in
    shallow_by us nothing_counted 0 0 (omega (arith, ints)) (script_stays 100 s (omega arith)) (ifs_from_marks (pos 96) (pos 0) us (omega (arith, ints)) ifs)
    (rw (script_counted us s spelled) operators)

pub canonical_not_deep : (tokens canonical : List Token) (s : Script) → SpellsScript (kinds tokens) s → IsWrittenScript s → first_too_deep tokens ≡ None
    → kinds canonical ≡ script_tokens s → first_too_deep canonical ≡ None
canonical_not_deep tokens canonical s k h within e =
    let shallow = shallow_from tokens nothing_counted (sym (first_deep_is tokens) ∙ within) in
    first_deep_is canonical ∙ shallow_to canonical nothing_counted (rw e (canonical_shallow (kinds tokens) s k h shallow))
