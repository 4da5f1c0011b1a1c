-- A script has at most as many items as its text has tokens.
use Rattle.std.proofs.Common.{◌≤◌, List, [], ◌∷◌, length, arith}
use Rattle.std.proofs.lemmas.List.{length-append}
use Rattle.pay_lexer.specs.declared.token.TokenKind.{TokenKind}
use Rattle.pay_meaning.specs.Language.{Item, Script}
use Rattle.pay_grammar.specs.Grammar.{SpellsItem, dated, rolled, SpellsScript, no_item, one_more_item}

-- an item has a token
item_has_token : (ts : List TokenKind) (i : Item) → SpellsItem ts i → 1 ≤ length ts
item_has_token _ _ (dated date ts b h) = omega arith
item_has_token _ _ (rolled terms digits ts b c h) = omega arith

pub few_items : (ts : List TokenKind) (script : Script) → SpellsScript ts script → length script ≤ length ts
few_items _ _ no_item = omega arith
few_items _ _ (one_more_item ts us items i before last) =
    let rest = few_items ts items before in
    let one = item_has_token us i last in
    rw (length-append items (i ∷ []), length-append ts us) (omega arith)
