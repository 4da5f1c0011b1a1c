-- The canonical text of a script spells it, within the limits of tokens.
use Rattle.pay_lexer.proofs.LawLemmas.{read_kinds_are_spelled, spelled_tokens_are_read}
use Rattle.pay_lexer.proofs.TokenForms.{token_forms}
use Rattle.pay_text.specs.Text.{script_text}
use Rattle.pay_grammar.specs.TokenLimits.{kinds}
use Rattle.pay_grammar.proofs.ScriptComplete.{spelled_script_is_read}
use Rattle.pay_canonical.specs.CanonicalLaw.{CanonicalTextSpells, CanonicalTextReadsBack}
use Rattle.pay_canonical.proofs.CanonicalTokens.{script_tokens, script_spelled}
use Rattle.pay_canonical.proofs.CanonicalLexed.{script_lexed}
use Rattle.pay_canonical.proofs.CanonicalSizes.{canonical_small}
use Rattle.pay_canonical.proofs.CanonicalDepths.{canonical_not_deep}
use Rattle.pay_canonical.proofs.Written.{script_written}

pub canonical_text_spells : CanonicalTextSpells
canonical_text_spells text ts s lexed spelled within =
    let written = script_written (kinds ts) s spelled (token_forms text ts lexed) in
    let found = read_kinds_are_spelled (script_text s) (script_tokens s) (script_lexed s written) in
    record {
      tokens = found.0;
      lexed = found.2;
      spelled = rw found.1 (script_spelled s written);
      within = record {
        sizes = canonical_small found.0 s found.1 written;
        depths = canonical_not_deep ts found.0 s spelled written within.depths found.1;
      };
    }

pub canonical_text_reads_back : CanonicalTextReadsBack
canonical_text_reads_back text ts s lexed spelled within =
    let c = canonical_text_spells text ts s lexed spelled within in
    record {
      tokens = c.tokens;
      lexed = spelled_tokens_are_read (script_text s) c.tokens c.lexed;
      parsed = spelled_script_is_read (kinds c.tokens) s c.spelled;
      within = c.within;
    }
