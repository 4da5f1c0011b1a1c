-- Days that compare as equal are one day.
use Rattle.std.proofs.Common.{Some, sym, ap, ◌∙◌}
use Rattle.std.proofs.lemmas.Bool.Decides.{Decides-int_eq}
use Rattle.pay_dates.specs.Days.{day_number}
use Rattle.pay_dates.proofs.DayLemmas.{same_day}
use Rattle.pay_report.proofs.date_text.DateText.is_of.Goals as goal

pub returns-in-Some : goal.returns-in-Some
returns-in-Some c = λ same.
    let number = (Decides-int_eq (day_number c.in-Some.kept) (day_number c.args.date)).0 (sym c.eq.ensures ∙ same) in
    sym c.self.view_is ∙ c.in-Some.is ∙ ap Some (same_day c.in-Some.kept c.args.date number)
