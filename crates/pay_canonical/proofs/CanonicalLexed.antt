-- The canonical text of a script is cut into its tokens.
use Rattle.std.proofs.Common.{◌≡◌, ℕ, ◌*◌, ℤ, pos, ◌≤ℤ◌, codes, Bool, false, int_lt, IsTrue, inl, inr, List, [], ◌∷◌, ◌++◌, Some, refl, sym, ap, ◌∙◌}
use Rattle.std.proofs.Common.{subst, append-nil, append_assoc, arith}
use Rattle.std.specs.Fmt.{decimal}
use Rattle.std.specs.List.{list_all}
use Rattle.std.proofs.lemmas.Bool.{and_from}
use Rattle.std.proofs.lemmas.Bool.Decides.{nat_tests}
use Rattle.std.proofs.lemmas.Int.{ints}
use Rattle.pay_dates.specs.Days.{IsDay}
use Rattle.pay_dates.specs.declared.day.Day.{Day}
use Rattle.pay_dates.specs.declared.roll.Rule.{Rule}
use Rattle.pay_dates.specs.declared.roll.Rule.TheVariants.{Stay, Following, Preceding, Modified}
use Rattle.pay_dates.specs.declared.roll.Unit.{Unit as StepUnit}
use Rattle.pay_dates.specs.declared.roll.Unit.TheVariants.{Days, Weeks, Months, Years}
use Rattle.pay_fixed.specs.Round.{IsRaw}
use Rattle.pay_fixed.specs.Grammar.{AreDigits, IsNumeral, SpellsFraction, no_fraction, point}
use Rattle.pay_fixed.specs.Decimal.{decimal_of, decimal_text, sign_text, point_text}
use Rattle.pay_fixed.proofs.Text.{text-spells}
use Rattle.pay_lexer.specs.declared.token.Key.TheVariants as key
use Rattle.pay_lexer.specs.declared.token.Sign.TheVariants as sign
use Rattle.pay_lexer.specs.declared.token.TokenKind.{TokenKind}
use Rattle.pay_lexer.specs.declared.token.TokenKind.TheVariants as token
use Rattle.pay_lexer.specs.Forms.{IsDigits, IsNumber, whole, with_point}
use Rattle.pay_lexer.specs.Tokens.{key_of}
use Rattle.pay_lexer.specs.Spelling.{mark_length}
use Rattle.pay_lexer.specs.Lexing.{kinds_after, kinds_in}
use Rattle.pay_lexer.proofs.TextPieces.{Apart, Ends, Ended, alone, nothing, then_apart, then_ended, ended_then, name_read, number_read, date_read}
use Rattle.pay_meaning.proofs.EventLaws.{lt-cases}
use Rattle.pay_meaning.specs.Language.{Operator, add, subtract, multiply, divide, least, greatest, Number, literal, variable, spot, period, days}
use Rattle.pay_meaning.specs.Language.{negative, absolute, binary, Comparison, less, at_most, greater, at_least, equals, differs, Condition}
use Rattle.pay_meaning.specs.Language.{compare, negation, conjunction, disjunction, settled, sure, Statement, assign, pay, choose, group, Body}
use Rattle.pay_meaning.specs.Language.{done, next, Terms, Item, plain, scheduled, Script}
use Rattle.pay_meaning.specs.Words.{is_digit, is_keyword, is_name, IsName, unit_word}
use Rattle.pay_text.specs.Text.{opening, between, number_text, comparing, condition_text, if_line, word_line, deeper, unless_empty, statement_text}
use Rattle.pay_text.specs.Text.{body_text, item_indent, date_line, rule_text, dates_text, step_text, schedule_line, item_text, script_text}
use Rattle.pay_grammar.specs.Grammar.{sign_of, bracketed, rule_tokens, schedule_tokens}
use Rattle.pay_canonical.proofs.CanonicalTokens.{IsWritten, IsWrittenCondition, IsWrittenStatement, IsWrittenBody, IsWrittenItem, IsWrittenScript}
use Rattle.pay_canonical.proofs.CanonicalTokens.{signed_tokens, binary_tokens, number_tokens, condition_tokens, statement_tokens, body_tokens, item_tokens}
use Rattle.pay_canonical.proofs.CanonicalTokens.{script_tokens, count_text}

-- the bytes that follow names and numbers in the canonical text
blank_ends : Ends 32
blank_ends = record { no_word = refl; no_digit = refl; no_point = refl }

bracket_ends : Ends 41
bracket_ends = record { no_word = refl; no_digit = refl; no_point = refl }

comma_ends : Ends 44
comma_ends = record { no_word = refl; no_digit = refl; no_point = refl }

semicolon_ends : Ends 59
semicolon_ends = record { no_word = refl; no_digit = refl; no_point = refl }

close_read : Apart (codes ")") (token.Sign sign.ParenRight ∷ [])
close_read = record { reads = λ rest us e. rw e refl }

minus_read : Apart (codes "-") (token.Sign sign.Minus ∷ [])
minus_read = record { reads = λ rest us e. rw e refl }

abs_read : Apart (codes "abs(") (token.Key key.Abs ∷ token.Sign sign.ParenLeft ∷ [])
unfolding key_of
abs_read = record { reads = λ rest us e. rw e refl }

spot_read : Apart (codes "spot()") (token.Key key.Spot ∷ bracketed [])
unfolding key_of
spot_read = record { reads = λ rest us e. rw e refl }

period_read : Apart (codes "period()") (token.Key key.Period ∷ bracketed [])
unfolding key_of
period_read = record { reads = λ rest us e. rw e refl }

days_read : Apart (codes "days()") (token.Key key.Days ∷ bracketed [])
unfolding key_of
days_read = record { reads = λ rest us e. rw e refl }

-- the tokens before two numbers under an operator, and the one between them
abbrev opening_tokens : Operator → List TokenKind
opening_tokens add = token.Sign sign.ParenLeft ∷ []
opening_tokens subtract = token.Sign sign.ParenLeft ∷ []
opening_tokens multiply = token.Sign sign.ParenLeft ∷ []
opening_tokens divide = token.Sign sign.ParenLeft ∷ []
opening_tokens least = token.Key key.Min ∷ token.Sign sign.ParenLeft ∷ []
opening_tokens greatest = token.Key key.Max ∷ token.Sign sign.ParenLeft ∷ []

abbrev between_token : Operator → TokenKind
between_token add = token.Sign sign.Plus
between_token subtract = token.Sign sign.Minus
between_token multiply = token.Sign sign.Star
between_token divide = token.Sign sign.Slash
between_token least = token.Sign sign.Comma
between_token greatest = token.Sign sign.Comma

opening_read : (op : Operator) → Apart (opening op) (opening_tokens op)
unfolding key_of
opening_read add = record { reads = λ rest us e. rw e refl }
opening_read subtract = record { reads = λ rest us e. rw e refl }
opening_read multiply = record { reads = λ rest us e. rw e refl }
opening_read divide = record { reads = λ rest us e. rw e refl }
opening_read least = record { reads = λ rest us e. rw e refl }
opening_read greatest = record { reads = λ rest us e. rw e refl }

between_piece : (op : Operator) → Apart (between op) (between_token op ∷ [])
between_piece add = record { reads = λ rest us e. rw e refl }
between_piece subtract = record { reads = λ rest us e. rw e refl }
between_piece multiply = record { reads = λ rest us e. rw e refl }
between_piece divide = record { reads = λ rest us e. rw e refl }
between_piece least = record { reads = λ rest us e. rw e refl }
between_piece greatest = record { reads = λ rest us e. rw e refl }

-- a number, what stands between it and the next, and the rest
between_read : (op : Operator) (text more : List ℕ) (ks ls : List TokenKind) → Ended text ks → Apart more ls
    → Apart (text ++ (between op ++ more)) (ks ++ between_token op ∷ ls)
between_read add text more ks ls a b = ended_then 32 a blank_ends (then_apart (between_piece add) b)
between_read subtract text more ks ls a b = ended_then 32 a blank_ends (then_apart (between_piece subtract) b)
between_read multiply text more ks ls a b = ended_then 32 a blank_ends (then_apart (between_piece multiply) b)
between_read divide text more ks ls a b = ended_then 32 a blank_ends (then_apart (between_piece divide) b)
between_read least text more ks ls a b = ended_then 44 a comma_ends (then_apart (between_piece least) b)
between_read greatest text more ks ls a b = ended_then 44 a comma_ends (then_apart (between_piece greatest) b)

-- the same tokens with other brackets round their parts
binary_tokens_are : (op : Operator) (ts us : List TokenKind)
    → opening_tokens op ++ (ts ++ between_token op ∷ (us ++ token.Sign sign.ParenRight ∷ [])) ≡ binary_tokens op ts us
binary_tokens_are add ts us = rw append_assoc refl
binary_tokens_are subtract ts us = rw append_assoc refl
binary_tokens_are multiply ts us = rw append_assoc refl
binary_tokens_are divide ts us = rw append_assoc refl
binary_tokens_are least ts us = rw append_assoc refl
binary_tokens_are greatest ts us = rw append_assoc refl

-- a number and the bracket after it
closed_read : (text : List ℕ) (ks : List TokenKind) → Ended text ks → Apart (text ++ codes ")") (ks ++ token.Sign sign.ParenRight ∷ [])
closed_read text ks a = ended_then 41 a bracket_ends close_read

binary_read : (op : Operator) (text more : List ℕ) (ks ls : List TokenKind) → Ended text ks → Ended more ls
    → Apart (opening op ++ (text ++ (between op ++ (more ++ codes ")")))) (binary_tokens op ks ls)
binary_read op text more ks ls a b =
    subst (Apart (opening op ++ (text ++ (between op ++ (more ++ codes ")"))))) (binary_tokens_are op ks ls)
    (then_apart (opening_read op) (between_read op text (more ++ codes ")") ks (ls ++ token.Sign sign.ParenRight ∷ []) a (closed_read more ls b)))

digits_pass : (ds : List ℕ) → AreDigits ds → IsTrue (list_all is_digit ds)
digits_pass [] h = refl
digits_pass (d ∷ ds) h = and_from (is_digit d) (list_all is_digit ds) (grind (arith, nat_tests, h.0)) (digits_pass ds h.1)

numeral_digits : (ds : List ℕ) → IsNumeral ds → IsDigits ds
numeral_digits ds h = (h.0, digits_pass ds h.1)

pointed_number : (digits text ds : List ℕ) → IsNumeral digits → SpellsFraction text ds → IsNumber (digits ++ point_text ds)
pointed_number digits _ _ h no_fraction = rw append-nil (whole digits (numeral_digits digits h))
pointed_number digits _ _ h (point (d ∷ ds) k) = with_point digits (d ∷ ds) (numeral_digits digits h) (numeral_digits (d ∷ ds) k)
pointed_number digits _ _ h (point [] k) = absurd (omega (arith, k.0))

not_negative : (raw : ℤ) → pos 0 ≤ℤ raw → int_lt raw (pos 0) ≡ false
not_negative raw h = elim (lt-cases raw (pos 0)) [ inl below ↦ absurd (omega (arith, ints, below.1)) | inr above ↦ above.0 ]

without_sign : (below : Bool) (text : List ℕ) → below ≡ false → IsNumber text → IsNumber (sign_text below ++ text)
without_sign below text h k = rw h k

-- the text of a number that is not below zero is digits, with a point or none
literal_number : (raw : ℤ) → pos 0 ≤ℤ raw → IsRaw raw → IsNumber (decimal_text raw)
unfolding decimal_text
literal_number raw h k =
    let d = decimal_of raw in
    let s = text-spells raw k in
    without_sign d.negative (d.whole ++ point_text d.fraction) (not_negative raw h)
    (pointed_number d.whole s.fraction d.fraction s.spells_whole s.spells_fraction)

-- the text of a number gives its tokens
number_ended : (n : Number) → IsWritten n → Ended (number_text n) (number_tokens n)
number_ended (literal raw) h = number_read (decimal_text raw) (literal_number raw h.0 h.1)
number_ended (variable name) h = name_read name h
number_ended spot h = alone spot_read
number_ended period h = alone period_read
number_ended days h = alone days_read
number_ended (negative side) h = then_ended minus_read (number_ended side h)
number_ended (absolute side) h = alone (then_apart abs_read (closed_read (number_text side) (number_tokens side) (number_ended side h)))
number_ended (binary op left right) h =
    alone (binary_read op (number_text left) (number_text right) (number_tokens left) (number_tokens right) (number_ended left h.0) (number_ended right h.1))

line_end_read : Apart (codes ";\n") (token.Sign sign.Semicolon ∷ [])
line_end_read = record { reads = λ rest us e. rw e refl }

-- a number and the end of its line
ended_line : (n : Number) → IsWritten n → Apart (number_text n ++ codes ";\n") (number_tokens n ++ token.Sign sign.Semicolon ∷ [])
ended_line n h = ended_then 59 (number_ended n h) semicolon_ends line_end_read

equals_read : Apart (codes " = ") (token.Sign sign.Equals ∷ [])
equals_read = record { reads = λ rest us e. rw e refl }

pays_read : Apart (codes " pays ") (token.Key key.Pays ∷ [])
unfolding key_of
pays_read = record { reads = λ rest us e. rw e refl }

open_read : Apart (codes "(") (token.Sign sign.ParenLeft ∷ [])
open_read = record { reads = λ rest us e. rw e refl }

not_read : Apart (codes "not ") (token.Key key.Not ∷ [])
unfolding key_of
not_read = record { reads = λ rest us e. rw e refl }

and_read : Apart (codes " and ") (token.Key key.And ∷ [])
unfolding key_of
and_read = record { reads = λ rest us e. rw e refl }

or_read : Apart (codes " or ") (token.Key key.Or ∷ [])
unfolding key_of
or_read = record { reads = λ rest us e. rw e refl }

comparing_piece : (op : Comparison) → Apart (comparing op) (token.Sign (sign_of op) ∷ [])
comparing_piece less = record { reads = λ rest us e. rw e refl }
comparing_piece at_most = record { reads = λ rest us e. rw e refl }
comparing_piece greater = record { reads = λ rest us e. rw e refl }
comparing_piece at_least = record { reads = λ rest us e. rw e refl }
comparing_piece equals = record { reads = λ rest us e. rw e refl }
comparing_piece differs = record { reads = λ rest us e. rw e refl }

-- a piece, and then another, which both end before a byte that ends words and numbers
ended_on : {text more : List ℕ} {ks ls : List TokenKind} → (byte : ℕ) → Ended text ks → Ends byte → Ended (byte ∷ more) ls
    → Ended (text ++ byte ∷ more) (ks ++ ls)
ended_on {text} {more} {ks} {ls} byte a ends b = record {
  reads = λ after rest us last e.
      rw (append_assoc text (byte ∷ more) (after ∷ rest), append_assoc ks ls us)
      (a.reads byte (more ++ after ∷ rest) (ls ++ us) ends (b.reads after rest us last e));
}

-- two numbers with the sign of a comparison between them
comparing_read : (op : Comparison) (text more : List ℕ) (ks ls : List TokenKind) → Ended text ks → Ended more ls
    → Ended (text ++ (comparing op ++ more)) (ks ++ token.Sign (sign_of op) ∷ ls)
comparing_read less text more ks ls a b = ended_on 32 a blank_ends (then_ended (comparing_piece less) b)
comparing_read at_most text more ks ls a b = ended_on 32 a blank_ends (then_ended (comparing_piece at_most) b)
comparing_read greater text more ks ls a b = ended_on 32 a blank_ends (then_ended (comparing_piece greater) b)
comparing_read at_least text more ks ls a b = ended_on 32 a blank_ends (then_ended (comparing_piece at_least) b)
comparing_read equals text more ks ls a b = ended_on 32 a blank_ends (then_ended (comparing_piece equals) b)
comparing_read differs text more ks ls a b = ended_on 32 a blank_ends (then_ended (comparing_piece differs) b)

-- the same tokens with other brackets round their parts
signed_tokens_are : (ts us : List TokenKind) (t : TokenKind)
    → token.Sign sign.ParenLeft ∷ (ts ++ t ∷ (us ++ token.Sign sign.ParenRight ∷ [])) ≡ signed_tokens ts t us
signed_tokens_are ts us t = rw append_assoc refl

-- two conditions in brackets, with a word between them that begins with a blank
joined_read : (text word more : List ℕ) (ks ls : List TokenKind) (t : TokenKind) → Ended text ks → Apart (32 ∷ word) (t ∷ []) → Ended more ls
    → Apart (codes "(" ++ (text ++ ((32 ∷ word) ++ (more ++ codes ")")))) (signed_tokens ks t ls)
joined_read text word more ks ls t a joint b =
    subst (Apart (codes "(" ++ (text ++ ((32 ∷ word) ++ (more ++ codes ")"))))) (signed_tokens_are ks ls t)
    (then_apart open_read (ended_then 32 a blank_ends (then_apart joint (closed_read more ls b))))

-- the text of a condition gives its tokens
condition_ended : (c : Condition) → IsWrittenCondition c → Ended (condition_text c) (condition_tokens c)
condition_ended (compare op left right note) h =
    comparing_read op (number_text left) (number_text right) (number_tokens left) (number_tokens right) (number_ended left h.0) (number_ended right h.1)
condition_ended (negation side) h = then_ended not_read (condition_ended side h)
condition_ended (conjunction left right) h =
    alone (joined_read (condition_text left) (codes "and ") (condition_text right) (condition_tokens left) (condition_tokens right) (token.Key key.And)
    (condition_ended left h.0) and_read (condition_ended right h.1))
condition_ended (disjunction left right) h =
    alone (joined_read (condition_text left) (codes "or ") (condition_text right) (condition_tokens left) (condition_tokens right) (token.Key key.Or)
    (condition_ended left h.0) or_read (condition_ended right h.1))
condition_ended (settled answer) h = absurd h
condition_ended (sure answer side) h = absurd h

if_read : Apart (codes "if ") (token.Key key.If ∷ [])
unfolding key_of
if_read = record { reads = λ rest us e. rw e refl }

then_read : Apart (codes " then\n") (token.Key key.Then ∷ [])
unfolding key_of
then_read = record { reads = λ rest us e. rw e refl }

else_word_read : Apart (codes "else\n") (token.Key key.Else ∷ [])
unfolding key_of
else_word_read = record { reads = λ rest us e. rw e refl }

endif_read : Apart (codes "endif\n") (token.Key key.Endif ∷ [])
unfolding key_of
endif_read = record { reads = λ rest us e. rw e refl }

item_indent_read : Apart item_indent []
item_indent_read = record { reads = λ rest us e. rw e refl }

-- the indent of a branch gives no token where the one before it gives none
deeper_read : (indent : List ℕ) → Apart indent [] → Apart (deeper indent) []
deeper_read indent blank = then_apart blank item_indent_read

if_line_read : (indent : List ℕ) (c : Condition) → Apart indent [] → IsWrittenCondition c
    → Apart (if_line indent c) (token.Key key.If ∷ (condition_tokens c ++ token.Key key.Then ∷ []))
if_line_read indent c blank h = then_apart blank (then_apart if_read (ended_then 32 (condition_ended c h) blank_ends then_read))

-- the lines of the second branch give its tokens, and none where it has no statements
else_read : (indent : List ℕ) (b : Body) → Apart indent [] → Apart (body_text (deeper indent) b) (body_tokens b)
    → Apart (unless_empty b (word_line indent (codes "else") ++ body_text (deeper indent) b)) (unless_empty b (token.Key key.Else ∷ body_tokens b))
else_read indent done blank k = nothing
else_read indent (next statement rest) blank k = then_apart (then_apart blank else_word_read) k

-- the tokens of the line of an `if` before others
if_tokens_are : (ks ls : List TokenKind) → (token.Key key.If ∷ (ks ++ token.Key key.Then ∷ [])) ++ ls ≡ token.Key key.If ∷ (ks ++ token.Key key.Then ∷ ls)
if_tokens_are ks ls = rw append_assoc refl

choice_read : (indent : List ℕ) (c : Condition) (a b : Body) → Apart indent [] → IsWrittenCondition c
    → Apart (body_text (deeper indent) a) (body_tokens a) → Apart (body_text (deeper indent) b) (body_tokens b)
    → Apart (statement_text indent (choose c a b)) (statement_tokens (choose c a b))
choice_read indent c a b blank h k l =
    let others = then_apart k (then_apart (else_read indent b blank l) (then_apart blank endif_read)) in
    subst (Apart (statement_text indent (choose c a b)))
    (if_tokens_are (condition_tokens c) (body_tokens a ++ (unless_empty b (token.Key key.Else ∷ body_tokens b) ++ token.Key key.Endif ∷ [])))
    (then_apart (if_line_read indent c blank h) others)

mutual
  -- the lines of a statement give its tokens, after an indent that gives none
  statement_read : (indent : List ℕ) (s : Statement) → Apart indent [] → IsWrittenStatement s → Apart (statement_text indent s) (statement_tokens s)
  statement_read indent (assign name number) blank h =
      then_apart blank (ended_then 32 (name_read name h.0) blank_ends (then_apart equals_read (ended_line number h.1)))
  statement_read indent (pay leg number) blank h =
      then_apart blank (ended_then 32 (name_read leg h.0) blank_ends (then_apart pays_read (ended_line number h.1)))
  statement_read indent (choose c a b) blank h =
      let further = deeper_read indent blank in
      choice_read indent c a b blank h.0 (body_read (deeper indent) a further h.1) (body_read (deeper indent) b further h.2)
  statement_read indent (group body) blank h = absurd h

  body_read : (indent : List ℕ) (b : Body) → Apart indent [] → IsWrittenBody b → Apart (body_text indent b) (body_tokens b)
  body_read indent done blank h = nothing
  body_read indent (next statement rest) blank h = then_apart (statement_read indent statement blank h.0) (body_read indent rest blank h.1)

line_feed_read : Apart (codes "\n") []
line_feed_read = record { reads = λ rest us e. rw e refl }

date_line_read : (date : Day) → IsDay date → Apart (date_line date) (token.Date date ∷ [])
date_line_read date h = then_apart (date_read date h) line_feed_read

schedule_read : Apart (codes "schedule from ") (token.Key key.Schedule ∷ token.Key key.From ∷ [])
unfolding key_of
schedule_read = record { reads = λ rest us e. rw e refl }

to_read : Apart (codes " to ") (token.Key key.To ∷ [])
unfolding key_of
to_read = record { reads = λ rest us e. rw e refl }

every_read : Apart (codes " every ") (token.Key key.Every ∷ [])
unfolding key_of
every_read = record { reads = λ rest us e. rw e refl }

blank_read : Apart (codes " ") []
blank_read = record { reads = λ rest us e. rw e refl }

-- the word of a rule, if there is one, and `do`
do_read : (rule : Rule) → Apart (rule_text rule ++ codes " do\n") (rule_tokens rule ++ token.Key key.Do ∷ [])
unfolding key_of
do_read Stay = record { reads = λ rest us e. rw e refl }
do_read Following = record { reads = λ rest us e. rw e refl }
do_read Preceding = record { reads = λ rest us e. rw e refl }
do_read Modified = record { reads = λ rest us e. rw e refl }

end_read : Apart (codes "end\n") (token.Key key.End ∷ [])
unfolding key_of
end_read = record { reads = λ rest us e. rw e refl }

-- the word of a unit is a name
unit_name : (unit : StepUnit) → IsName (unit_word unit)
unfolding is_name is_keyword
unit_name Days = refl
unit_name Weeks = refl
unit_name Months = refl
unit_name Years = refl

-- the word of a unit and the rest of the line, which begins with a blank
unit_read : (unit : StepUnit) (rule : Rule) → Apart (unit_word unit ++ (rule_text rule ++ codes " do\n"))
    (token.Word (unit_word unit) ∷ (rule_tokens rule ++ token.Key key.Do ∷ []))
unit_read unit Stay = ended_then 32 (name_read (unit_word unit) (unit_name unit)) blank_ends (do_read Stay)
unit_read unit Following = ended_then 32 (name_read (unit_word unit) (unit_name unit)) blank_ends (do_read Following)
unit_read unit Preceding = ended_then 32 (name_read (unit_word unit) (unit_name unit)) blank_ends (do_read Preceding)
unit_read unit Modified = ended_then 32 (name_read (unit_word unit) (unit_name unit)) blank_ends (do_read Modified)

-- the digits of a count are a number
count_number : (n : ℕ) → IsRaw (pos (n * 10_000)) → IsNumber (decimal n)
count_number n h = rw (count_text n) at (literal_number (pos (n * 10_000)) (omega (arith, ints)) h)

-- the two dates of a schedule
dates_read : (first last : Day) → IsDay first → IsDay last → Apart (dates_text first last)
    (token.Key key.Schedule ∷ token.Key key.From ∷ token.Date first ∷ token.Key key.To ∷ token.Date last ∷ [])
dates_read first last h k = then_apart schedule_read (then_apart (date_read first h) (then_apart to_read (date_read last k)))

-- the step of a schedule and `do`
step_read : (every : ℕ) (unit : StepUnit) (rule : Rule) → IsRaw (pos (every * 10_000)) → Apart (step_text every unit rule ++ codes " do\n")
    (token.Key key.Every ∷ token.Number (decimal every) ∷ token.Word (unit_word unit) ∷ (rule_tokens rule ++ token.Key key.Do ∷ []))
step_read every unit rule h =
    let from_unit : Apart (codes " " ++ (unit_word unit ++ (rule_text rule ++ codes " do\n")))
    (token.Word (unit_word unit) ∷ (rule_tokens rule ++ token.Key key.Do ∷ [])) = then_apart blank_read (unit_read unit rule) in
    let all = then_apart every_read (ended_then 32 (number_read (decimal every) (count_number every h)) blank_ends from_unit) in
    simp append_assoc all

schedule_line_read : (terms : Terms) → IsDay terms.first → IsDay terms.last → IsRaw (pos (terms.every * 10_000))
    → Apart (schedule_line terms) (schedule_tokens terms (decimal terms.every))
schedule_line_read terms h k l = then_apart (dates_read terms.first terms.last h k) (step_read terms.every terms.unit terms.rule l)

item_read : (i : Item) → IsWrittenItem i → Apart (item_text i) (item_tokens i)
item_read (plain date body) h = then_apart (date_line_read date h.0) (body_read item_indent body item_indent_read h.1)
item_read (scheduled terms body) h =
    then_apart (schedule_line_read terms h.0 h.1 h.2) (then_apart (body_read item_indent body item_indent_read h.3) end_read)

script_read : (s : Script) → IsWrittenScript s → Apart (script_text s) (script_tokens s)
script_read [] h = nothing
script_read (item ∷ rest) h = then_apart (item_read item h.0) (script_read rest h.1)

-- no byte order mark begins the text
no_mark : (s : Script) → mark_length (script_text s) ≡ 0
no_mark [] = refl
no_mark (plain date body ∷ rest) = refl
no_mark (scheduled terms body ∷ rest) = refl

-- the canonical text of a script is read as its tokens
pub script_lexed : (s : Script) → IsWrittenScript s → kinds_in (script_text s) ≡ Some (script_tokens s)
unfolding kinds_in
script_lexed s h =
    let read : kinds_after 0 (script_text s ++ []) ≡ Some (script_tokens s ++ []) = (script_read s h).reads [] [] refl in
    ap (λ n. kinds_after n (script_text s)) (no_mark s)
    ∙ (ap (kinds_after 0) (sym (append-nil (script_text s))) ∙ (read ∙ ap Some (append-nil (script_tokens s))))
