-- What is seen of a reader of records: the record that it read last, and those that are left.
use Rattle.std.specs.Prelude.{◌≡◌, Bool, true, false, List, [], ◌∷◌}
use Rattle.pay_tables.specs.Records.{Record}

-- the record that was read last, and those that are left
abbrev pub Seen : Type 0
Seen = Record × List Record

-- the record that was read last
abbrev pub current : Seen → Record
current seen = seen.0

-- the records that are left
abbrev pub left : Seen → List Record
left seen = seen.1

-- a read gives the first record that is left, or tells that none is
abbrev pub Advances : Seen → Seen → Bool → Type 0
Advances before after true = left before ≡ current after ∷ left after
Advances before after false = left before ≡ []
