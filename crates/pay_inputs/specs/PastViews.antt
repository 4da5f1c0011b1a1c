-- The past fixings of the code as plain data.
use Rattle.std.specs.Prelude.{Option}
use Rattle.std.specs.Borrow.{Bor}
use Rattle.std.specs.Option.{option_map}
use Rattle.pay_meaning.specs.Meaning as meant
use Rattle.pay_tables.specs.Views as tables
use Rattle.pay_inputs.specs.declared.past.PastFixings.{PastFixings}

abbrev pub past_fixings : PastFixings → meant.Past
past_fixings p = record { asof = p.asof; cells = tables.past p.fixings }

-- past fixings that are given, or none
abbrev pub known_past : Option PastFixings → Option meant.Past
known_past past = option_map past_fixings past

-- the same, where they are lent
abbrev pub lent_past : Option (Bor PastFixings) → Option meant.Past
lent_past past = option_map (λ p. past_fixings p.now) past
