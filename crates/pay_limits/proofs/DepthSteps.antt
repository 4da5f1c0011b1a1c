-- One step of the search for the first token with which a limit of depth is passed.
use Rattle.std.proofs.Common.{◌≡◌, ℕ, ◌+◌, ◌<◌, Bool, true, false, List, ◌∷◌, length, get_or, drop, Some, if◌then◌else◌, sym, ap, ◌∙◌}
use Rattle.std.proofs.lemmas.List.{at_drop_more}
use Rattle.pay_lexer.specs.declared.token.Token.{Token}
use Rattle.pay_grammar.specs.TokenDepths.{Depths, deeper, is_deep, first_deep}

-- what the first token that is left says, by the counts before and with it, and by whether they pass a limit
turn : (before with_it : Depths) (passed : Bool) (tokens : List Token) (i : ℕ) (t : Token) → i < length tokens → t ≡ get_or tokens i t
    → with_it ≡ deeper before t.kind → is_deep with_it ≡ passed
    → first_deep before (drop i tokens) ≡ (if passed then Some t else first_deep with_it (drop (i + 1) tokens))
turn before with_it passed tokens i t h is more e =
    at_drop_more (first_deep before) tokens i t h
    ∙ ap (λ u. first_deep before (u ∷ drop (i + 1) tokens)) (sym is)
    ∙ ap (λ d. if is_deep d then Some t else first_deep d (drop (i + 1) tokens)) (sym more)
    ∙ ap (λ b. if b then Some t else first_deep with_it (drop (i + 1) tokens)) e

-- it is the first
pub first_deep_here : (before with_it : Depths) (tokens : List Token) (i : ℕ) (t : Token) → i < length tokens → t ≡ get_or tokens i t
    → with_it ≡ deeper before t.kind → is_deep with_it ≡ true → first_deep before (drop i tokens) ≡ Some t
first_deep_here before with_it tokens i t h is more e = turn before with_it true tokens i t h is more e

-- or it is one of those after it
pub first_deep_later : (before with_it : Depths) (tokens : List Token) (i : ℕ) (t : Token) → i < length tokens → t ≡ get_or tokens i t
    → with_it ≡ deeper before t.kind → is_deep with_it ≡ false → first_deep before (drop i tokens) ≡ first_deep with_it (drop (i + 1) tokens)
first_deep_later before with_it tokens i t h is more e = turn before with_it false tokens i t h is more e
