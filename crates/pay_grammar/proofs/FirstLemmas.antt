-- The first token at which a limit is passed.
use Rattle.std.proofs.Common.{◌≡◌, Bool, true, false, List, [], ◌∷◌, ◌++◌, Option, Some, None, if◌then◌else◌, refl, sym, ap, ◌∙◌, append_assoc}
use Rattle.pay_lexer.specs.declared.token.Token.{Token}
use Rattle.pay_lexer.specs.declared.token.TokenKind.{TokenKind}
use Rattle.pay_grammar.specs.TokenLimits.{kinds, is_too_large, first_too_large, is_too_deep, first_reaching, first_too_deep}
use Rattle.pay_grammar.specs.LimitLaws.{IsNowhere, IsFirst, FindsFirst, FirstTooLargeIsFound, FirstTooDeepIsFound}

-- a limit that is asked at tokens that stand after one more
abbrev after_one : Token → (List Token → Token → Bool) → List Token → Token → Bool
after_one first passed before t = passed (first ∷ before) t

-- an answer is the first token at which the limit is passed, or there is none
abbrev Answers : (List Token → Token → Bool) → List Token → Option Token → Type 0
Answers passed tokens (Some t) = IsFirst passed tokens t
Answers passed tokens None = IsNowhere passed tokens

-- no tokens, and so none at which a limit is passed
nowhere_none : (passed : List Token → Token → Bool) → IsNowhere passed []
nowhere_none passed [] after t e = cc
nowhere_none passed (u ∷ before) after t e = cc

-- nowhere at the first and nowhere after it
nowhere_more : (passed : List Token → Token → Bool) (first : Token) (rest : List Token) → passed [] first ≡ false → IsNowhere (after_one first passed) rest
    → IsNowhere passed (first ∷ rest)
nowhere_more passed first rest miss k [] after t e = cc
nowhere_more passed first rest miss k (u ∷ before) after t e =
    let head : first ≡ u = cc in
    let tail : rest ≡ before ++ t ∷ after = cc in
    ap (λ x. passed (x ∷ before) t) (sym head) ∙ k before after t tail

first_here : (passed : List Token → Token → Bool) (first : Token) (rest : List Token) → passed [] first ≡ true → IsFirst passed (first ∷ rest) first
first_here passed first rest hit = record { before = []; after = rest; cut = refl; here = hit; not_before = nowhere_none passed }

first_later : (passed : List Token → Token → Bool) (first : Token) (rest : List Token) (t : Token) → passed [] first ≡ false
    → IsFirst (after_one first passed) rest t → IsFirst passed (first ∷ rest) t
first_later passed first rest t miss k = record {
  before = first ∷ k.before;
  after = k.after;
  cut = ap (λ x. first ∷ x) k.cut;
  here = k.here;
  not_before = nowhere_more passed first k.before miss k.not_before;
}

answers_later : (passed : List Token → Token → Bool) (first : Token) (rest : List Token) (later : Option Token) → passed [] first ≡ false
    → Answers (after_one first passed) rest later → Answers passed (first ∷ rest) later
answers_later passed first rest None miss k = nowhere_more passed first rest miss k
answers_later passed first rest (Some t) miss k = first_later passed first rest t miss k

-- the first token decides, or those after it
answers_more : (passed : List Token → Token → Bool) (first : Token) (rest : List Token) (later : Option Token) (test : Bool) → passed [] first ≡ test
    → Answers (after_one first passed) rest later → Answers passed (first ∷ rest) (if test then Some first else later)
answers_more passed first rest later true e k = first_here passed first rest e
answers_more passed first rest later false e k = answers_later passed first rest later e k

nowhere_is : (passed other : List Token → Token → Bool) (tokens : List Token) → ((before : List Token) (t : Token) → other before t ≡ passed before t)
    → IsNowhere passed tokens → IsNowhere other tokens
nowhere_is passed other tokens same k before after t e = same before t ∙ k before after t e

-- a limit that says the same has the same answer
answers_is : (passed other : List Token → Token → Bool) (tokens : List Token) (answer : Option Token)
    → ((before : List Token) (t : Token) → other before t ≡ passed before t) → Answers passed tokens answer → Answers other tokens answer
answers_is passed other tokens None same k = nowhere_is passed other tokens same k
answers_is passed other tokens (Some t) same k = record {
  before = k.before;
  after = k.after;
  cut = k.cut;
  here = same k.before t ∙ k.here;
  not_before = nowhere_is passed other k.before same k.not_before;
}

-- a token at which a limit is passed contradicts that it is passed nowhere
somewhere : (passed : List Token → Token → Bool) (tokens : List Token) (t : Token) → IsFirst passed tokens t → IsNowhere passed tokens → ⊥
somewhere passed tokens t k none = let miss = none k.before k.after t k.cut in let hit = k.here in cc

-- there is one first token, since two cuts of the same tokens at which a limit is first passed are the same
one_cut : (passed : List Token → Token → Bool) (before after : List Token) (t : Token) (front rest : List Token) (u : Token)
    → before ++ t ∷ after ≡ front ++ u ∷ rest → passed before t ≡ true → passed front u ≡ true → IsNowhere passed before → IsNowhere passed front → t ≡ u
one_cut passed [] after t [] rest u e hit too none neither = cc
one_cut passed [] after t (x ∷ front) rest u e hit too none neither =
    let head : t ≡ x = cc in
    let miss : passed [] x ≡ false = neither [] front x refl in
    absurd (let hit_here = rw head at hit in cc)
one_cut passed (x ∷ before) after t [] rest u e hit too none neither =
    let head : x ≡ u = cc in
    let miss : passed [] x ≡ false = none [] before x refl in
    absurd (let miss_here = rw head at miss in cc)
one_cut passed (x ∷ before) after t (y ∷ front) rest u e hit too none neither =
    let head : x ≡ y = cc in
    let tail : before ++ t ∷ after ≡ front ++ u ∷ rest = cc in
    one_cut (after_one x passed) before after t front rest u tail hit (rw head too)
    (λ b a w i. none (x ∷ b) a w (ap (λ z. x ∷ z) i)) (λ b a w i. rw head (neither (y ∷ b) a w (ap (λ z. y ∷ z) i)))

one_first : (passed : List Token → Token → Bool) (tokens : List Token) (t u : Token) → IsFirst passed tokens t → IsFirst passed tokens u → t ≡ u
one_first passed tokens t u k l = one_cut passed k.before k.after t l.before l.after u (sym k.cut ∙ l.cut) k.here l.here k.not_before l.not_before

-- so an answer is found exactly where it is the first, and none exactly where there is none
finds : (passed : List Token → Token → Bool) (tokens : List Token) (answer : Option Token) → Answers passed tokens answer → FindsFirst passed tokens answer
finds passed tokens None k = record {
  found = λ t. (λ e. absurd (cc e), λ l. absurd (somewhere passed tokens t l k));
  none = (λ e. k, λ l. refl);
}
finds passed tokens (Some u) k = record {
  found = λ t. (λ e. let same : u ≡ t = cc in rw (← same) k, λ l. ap Some (one_first passed tokens u t k l));
  none = (λ e. absurd (cc e), λ l. absurd (somewhere passed tokens u k l));
}

too_large : (tokens : List Token) → Answers (λ before t. is_too_large t.kind) tokens (first_too_large tokens)
too_large [] = nowhere_none _
too_large (t ∷ rest) = answers_more (λ before u. is_too_large u.kind) t rest (first_too_large rest) (is_too_large t.kind) refl (too_large rest)

too_deep : (front : List TokenKind) (tokens : List Token)
    → Answers (λ before t. is_too_deep (front ++ kinds (before ++ t ∷ []))) tokens (first_reaching is_too_deep front tokens)
too_deep front [] = nowhere_none _
too_deep front (t ∷ rest) =
    let longer = front ++ t.kind ∷ [] in
    answers_more (λ before u. is_too_deep (front ++ kinds (before ++ u ∷ []))) t rest (first_reaching is_too_deep longer rest) (is_too_deep longer) refl
    (answers_is (λ before u. is_too_deep (longer ++ kinds (before ++ u ∷ []))) _ rest (first_reaching is_too_deep longer rest)
    (λ before u. ap is_too_deep (sym (append_assoc front (t.kind ∷ []) (kinds (before ++ u ∷ []))))) (too_deep longer rest))

pub first_too_large_is_found : FirstTooLargeIsFound
first_too_large_is_found tokens = finds _ tokens (first_too_large tokens) (too_large tokens)

pub first_too_deep_is_found : FirstTooDeepIsFound
first_too_deep_is_found tokens = finds _ tokens (first_too_deep tokens) (too_deep [] tokens)
