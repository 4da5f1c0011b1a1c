use Rattle.pay_dates.proofs.DayLemmas.{day_text-length, day_in-day_text, day_text-day_in}
use Rattle.pay_dates.proofs.laws.day_text_reads_back.Goals as goal

pub returns-clause-ten_bytes : goal.returns-clause-ten_bytes
returns-clause-ten_bytes c = day_text-length

pub returns-clause-reads_back : goal.returns-clause-reads_back
returns-clause-reads_back c = day_in-day_text

pub returns-clause-is_text : goal.returns-clause-is_text
returns-clause-is_text c = day_text-day_in
