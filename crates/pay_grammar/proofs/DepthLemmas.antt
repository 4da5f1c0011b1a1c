-- What is counted on tokens for the limits of depth, when one more token is put after them.
use Rattle.std.proofs.Common.{◌≡◌, ℕ, ◌+◌, ◌≤◌, Bool, true, false, List, [], ◌∷◌, ◌++◌, length, filter, ℤ, pos, ◌+ℤ◌, ◌-ℤ◌, Some, if◌then◌else◌}
use Rattle.std.proofs.Common.{refl, ap, ◌∙◌, arith, length-append}
use Rattle.std.proofs.lemmas.Int.{ints}
use Rattle.std.proofs.lemmas.List.Elements.{filter-append}
use Rattle.std.proofs.lemmas.List.Sums.{length-filter, count_by-le-length}
use Rattle.pay_lexer.specs.declared.token.Token.{Token}
use Rattle.pay_lexer.specs.declared.token.TokenKind.{TokenKind}
use Rattle.pay_grammar.specs.TokenLimits.{count, is_open_bracket, is_closing_bracket, is_if, is_endif, is_operator, open_brackets, open_ifs}
use Rattle.pay_grammar.specs.TokenLimits.{begins_between, begin_stretch, stretches, last_of, last_stretch, is_too_deep, first_reaching}
use Rattle.pay_grammar.specs.TokenLimits.{first_too_deep}
use Rattle.pay_grammar.specs.TokenDepths.{last_token, last_kind, begins_after, deeper, is_deep, first_deep, nothing_counted, depths_after}

-- two pieces in a row have what both have
pub count_append : (test : TokenKind → Bool) (front rest : List TokenKind) → count test (front ++ rest) ≡ count test front + count test rest
count_append test front rest = ap length (filter-append test front rest) ∙ length-append (filter test front) (filter test rest)

differences : (a b c d : ℕ) → pos (a + b) -ℤ pos (c + d) ≡ (pos a -ℤ pos c) +ℤ (pos b -ℤ pos d)
differences a b c d = omega (arith, ints)

-- what is opened less what is closed
abbrev pub balance : (TokenKind → Bool) → (TokenKind → Bool) → List TokenKind → ℤ
balance opens closes ts = pos (count opens ts) -ℤ pos (count closes ts)

pub balance_append : (opens closes : TokenKind → Bool) (front rest : List TokenKind)
    → balance opens closes (front ++ rest) ≡ balance opens closes front +ℤ balance opens closes rest
balance_append opens closes front rest =
    let opened = count_append opens front rest in
    let closed = count_append closes front rest in
    rw (opened, closed) (differences (count opens front) (count opens rest) (count closes front) (count closes rest))

pub open_brackets_append : (front rest : List TokenKind) → open_brackets (front ++ rest) ≡ open_brackets front +ℤ open_brackets rest
open_brackets_append front rest = balance_append is_open_bracket is_closing_bracket front rest

pub open_ifs_append : (front rest : List TokenKind) → open_ifs (front ++ rest) ≡ open_ifs front +ℤ open_ifs rest
open_ifs_append front rest = balance_append is_if is_endif front rest

last_token_is : (first : TokenKind) (rest : List TokenKind) (last : TokenKind) → last_token first (rest ++ last ∷ []) ≡ last
last_token_is first [] last = refl
last_token_is first (t ∷ rest) last = last_token_is t rest last

-- stretches, with one more token at the end of the last
abbrev end_stretch : List (List TokenKind) → TokenKind → List (List TokenKind)
end_stretch [] t = (t ∷ []) ∷ []
end_stretch (stretch ∷ []) t = (stretch ++ t ∷ []) ∷ []
end_stretch (stretch ∷ next ∷ rest) t = stretch ∷ end_stretch (next ∷ rest) t

-- stretches and one more token after them, which begins a stretch of its own or not
abbrev with_token : Bool → List (List TokenKind) → TokenKind → List (List TokenKind)
with_token true cut t = cut ++ (t ∷ []) ∷ []
with_token false cut t = end_stretch cut t

-- at the front nothing changes, where there is a stretch to put the token into
apart : (begins : Bool) (a t : TokenKind) (stretch : List TokenKind) (cut : List (List TokenKind))
    → (a ∷ []) ∷ with_token begins (stretch ∷ cut) t ≡ with_token begins ((a ∷ []) ∷ stretch ∷ cut) t
apart true a t stretch cut = refl
apart false a t stretch cut = refl

together : (begins : Bool) (a t : TokenKind) (stretch : List TokenKind) (cut : List (List TokenKind))
    → begin_stretch a (with_token begins (stretch ∷ cut) t) ≡ with_token begins ((a ∷ stretch) ∷ cut) t
together true a t stretch cut = refl
together false a t stretch [] = refl
together false a t stretch (next ∷ cut) = refl

-- there is a stretch
abbrev IsCut : List (List TokenKind) → Type 0
IsCut [] = ⊥
IsCut (stretch ∷ rest) = Unit {0}

cut_more : (begins : Bool) (a : TokenKind) (cut : List (List TokenKind)) → IsCut (if begins then (a ∷ []) ∷ cut else begin_stretch a cut)
cut_more true a cut = tt
cut_more false a [] = tt
cut_more false a (stretch ∷ cut) = tt

some_stretch : (first : TokenKind) (rest : List TokenKind) → IsCut (stretches (first ∷ rest))
some_stretch first [] = tt
some_stretch first (t ∷ rest) = cut_more (begins_between first t) first (stretches (t ∷ rest))

more_at_front : (apart_from begins : Bool) (a t : TokenKind) (cut longer : List (List TokenKind)) → IsCut cut → longer ≡ with_token begins cut t
    → (if apart_from then (a ∷ []) ∷ longer else begin_stretch a longer) ≡ with_token begins (if apart_from then (a ∷ []) ∷ cut else begin_stretch a cut) t
more_at_front apart_from begins a t [] longer some e = absurd some
more_at_front true begins a t (stretch ∷ cut) longer some e = ap (λ x. (a ∷ []) ∷ x) e ∙ apart begins a t stretch cut
more_at_front false begins a t (stretch ∷ cut) longer some e = ap (begin_stretch a) e ∙ together begins a t stretch cut

both : (begins : Bool) (a t : TokenKind) → (if begins then (a ∷ []) ∷ (t ∷ []) ∷ [] else (a ∷ t ∷ []) ∷ []) ≡ with_token begins ((a ∷ []) ∷ []) t
both true a t = refl
both false a t = refl

-- one more token at the end goes into the last stretch, or begins one
stretches_more : (first : TokenKind) (rest : List TokenKind) (t : TokenKind)
    → stretches (first ∷ (rest ++ t ∷ [])) ≡ with_token (begins_between (last_token first rest) t) (stretches (first ∷ rest)) t
stretches_more first [] t = both (begins_between first t) first t
stretches_more first (u ∷ rest) t =
    more_at_front (begins_between first u) (begins_between (last_token u rest) t) first t (stretches (u ∷ rest)) _
    (some_stretch u rest) (stretches_more u rest t)

last_begins : (cut : List (List TokenKind)) (t : TokenKind) → last_of (cut ++ (t ∷ []) ∷ []) ≡ t ∷ []
last_begins [] t = refl
last_begins (stretch ∷ []) t = refl
last_begins (stretch ∷ next ∷ rest) t = last_begins (next ∷ rest) t

last_goes_on : (cut : List (List TokenKind)) (t : TokenKind) → last_of (end_stretch cut t) ≡ last_of cut ++ t ∷ []
last_goes_on [] t = refl
last_goes_on (stretch ∷ []) t = refl
last_goes_on (stretch ∷ next ∷ []) t = refl
last_goes_on (stretch ∷ next ∷ third ∷ rest) t = last_goes_on (next ∷ third ∷ rest) t

last_of_more : (begins : Bool) (cut : List (List TokenKind)) (t : TokenKind)
    → last_of (with_token begins cut t) ≡ (if begins then t ∷ [] else last_of cut ++ t ∷ [])
last_of_more true cut t = last_begins cut t
last_of_more false cut t = last_goes_on cut t

-- the stretch that tokens end in begins with one more token, or goes on with it
pub last_stretch_more : (front : List TokenKind) (t : TokenKind)
    → last_stretch (front ++ t ∷ []) ≡ (if begins_after (last_kind front) t then t ∷ [] else last_stretch front ++ t ∷ [])
last_stretch_more [] t = refl
last_stretch_more (first ∷ rest) t =
    ap last_of (stretches_more first rest t) ∙ last_of_more (begins_between (last_token first rest) t) (stretches (first ∷ rest)) t

operators_of_either : (begins : Bool) (stretch : List TokenKind) (t : TokenKind)
    → count is_operator (if begins then t ∷ [] else stretch ++ t ∷ []) ≡ (if begins then 0 else count is_operator stretch) + count is_operator (t ∷ [])
operators_of_either true stretch t = omega arith
operators_of_either false stretch t = count_append is_operator stretch (t ∷ [])

-- the operators of the stretch that tokens end in, with one more token
pub operators_more : (front : List TokenKind) (t : TokenKind)
    → count is_operator (last_stretch (front ++ t ∷ []))
    ≡ (if begins_after (last_kind front) t then 0 else count is_operator (last_stretch front)) + count is_operator (t ∷ [])
operators_more front t = ap (count is_operator) (last_stretch_more front t) ∙ operators_of_either (begins_after (last_kind front) t) (last_stretch front) t

-- no more tokens pass a test than there are
pub count_at_most : (test : TokenKind → Bool) (ts : List TokenKind) → count test ts ≤ length ts
count_at_most test ts = rw (length-filter test ts) (count_by-le-length test ts)

-- the token that was put at the end is the last
pub last_kind_more : (front : List TokenKind) (t : TokenKind) → last_kind (front ++ t ∷ []) ≡ Some t
last_kind_more [] t = refl
last_kind_more (first ∷ rest) t = ap Some (last_token_is first rest t)

-- with one more token all is counted as with all tokens
depths_more : (front : List TokenKind) (t : TokenKind) → depths_after (front ++ t ∷ []) ≡ deeper (depths_after front) t
depths_more front t = rw (open_brackets_append front (t ∷ []), open_ifs_append front (t ∷ []), operators_more front t, last_kind_more front t) refl

reached_from : (front : List TokenKind) (tokens : List Token) → first_reaching is_too_deep front tokens ≡ first_deep (depths_after front) tokens
reached_from front [] = refl
reached_from front (t ∷ rest) =
    let more = depths_more front t.kind in
    ap (λ later. if is_too_deep (front ++ t.kind ∷ []) then Some t else later) (reached_from (front ++ t.kind ∷ []) rest)
    ∙ ap (λ d. if is_deep d then Some t else first_deep d rest) more

-- counting along the tokens finds the first token at which a limit is passed
pub first_deep_is : (tokens : List Token) → first_too_deep tokens ≡ first_deep nothing_counted tokens
first_deep_is tokens = reached_from [] tokens
