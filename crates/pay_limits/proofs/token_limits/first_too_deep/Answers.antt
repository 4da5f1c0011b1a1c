-- The counts with one more token say whether it is the first with which a limit is passed.
use Rattle.std.proofs.Common.{option_map, sym, ap, ◌∙◌, arith}
use Rattle.std.proofs.lemmas.Int.{ints}
use Rattle.std.proofs.lemmas.List.{at_drop_all}
use Rattle.pay_grammar.specs.TokenDepths.{first_deep}
use Rattle.pay_grammar.proofs.DepthLemmas.{first_deep_is}
use Rattle.pay_limits.proofs.DepthSteps.{first_deep_here, first_deep_later}
use Rattle.pay_limits.proofs.token_limits.first_too_deep.Goals as goal

pub returns-then-are_passed : goal.returns-then-are_passed
returns-then-are_passed c =
    let passed = sym c.are_passed.ensures ∙ c.if-are_passed.true in
    let here = first_deep_here _ _ _ c.loop-token.token-index _ c.loop-token-test.true c.token-item.is c.with_token-depths.ensures.counted passed in
    sym (ap (option_map (λ token. token.start)) (first_deep_is c.args.tokens.now ∙ c.loop-token.invariant.same ∙ here))

pub loop-token-preserved : goal.loop-token-preserved
loop-token-preserved c =
    let passed = sym c.are_passed.ensures ∙ c.if-are_passed.false in
    record {
      same = c.loop-token.invariant.same
          ∙ first_deep_later _ _ _ c.loop-token.token-index _ c.loop-token-test.true c.token-item.is c.with_token-depths.ensures.counted passed;
      small = record {
        brackets = (omega (arith, ints), omega (arith, ints));
        ifs = (omega (arith, ints), omega (arith, ints));
        operators = omega arith;
      };
    }

pub returns : goal.returns
returns c =
    let none = at_drop_all (first_deep _) c.args.tokens.now c.loop-token.token-index c.loop-token-test.false in
    sym (ap (option_map (λ token. token.start)) (first_deep_is c.args.tokens.now ∙ c.loop-token.invariant.same ∙ none))
