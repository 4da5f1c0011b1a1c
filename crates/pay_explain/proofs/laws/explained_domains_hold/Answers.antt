use Rattle.pay_explain.proofs.NameLaws.{ends_are_shown, shown_hold}
use Rattle.pay_explain.proofs.laws.explained_domains_hold.Goals as goal

pub returns : goal.returns
returns c = record { shown = ends_are_shown; hold = shown_hold }
