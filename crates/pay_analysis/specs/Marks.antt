-- The marks that an event's parts have after a walk.
use Rattle.std.specs.Prelude.{ℕ, ℤ, nat_eq, Bool, true, false, ◌||◌, List, [], ◌∷◌, get_or, Option, None, if◌then◌else◌}
use Rattle.pay_domains.specs.declared.piece.Piece.{Piece}
use Rattle.pay_domains.specs.declared.flags.Flags.{Flags}
use Rattle.pay_domains.specs.Queries.{point_of}
use Rattle.pay_facts.specs.Reached.{Found, number_found, test_found, Part}
use Rattle.pay_analysis.specs.declared.marks.Mark.{Mark}
use Rattle.pay_analysis.specs.declared.marks.Mark.TheVariants.{Unreached, Number, Test}

-- the mark at each place of a list; past its end there is none
abbrev pub marks_at : List Mark → ℕ → Mark
marks_at marks id = get_or marks id Unreached

-- there is a fault that can't be ruled out
abbrev pub is_flagged : Flags → Bool
is_flagged flags = flags.overflow || (flags.zero || flags.missing)

-- the one raw of a domain, unless a fault is flagged
abbrev pub point_unless : Bool → List Piece → Option ℤ
point_unless true domain = None
point_unless false domain = point_of domain

-- the mark of what a part can give: of a number the one raw that it can have, where it has no fault; of a test its truth, where it is decided, and
-- whether it can have a fault
abbrev pub mark_of : Found → Mark
mark_of (number_found range) = Number (point_unless (is_flagged range.flags) range.domain)
mark_of (test_found decision) = Test decision.answer (is_flagged decision.flags)

-- one part has this mark now
abbrev pub put_mark : (ℕ → Mark) → ℕ → Mark → ℕ → Mark
put_mark marks id mark other = if nat_eq other id then mark else marks other

-- each of these parts has its mark, put one after the other
abbrev pub marked : (ℕ → Mark) → List Part → ℕ → Mark
marked marks [] = marks
marked marks (part ∷ rest) = marked (put_mark marks part.id (mark_of part.found)) rest

-- no part is reached
abbrev pub no_marks : ℕ → Mark
no_marks id = Unreached
