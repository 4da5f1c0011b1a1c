-- How much of a body is counted: its parts and its payments, up to one more than the limit of a script.
use Rattle.std.specs.Prelude.{ℕ, ◌+◌, nat_le, length, if◌then◌else◌}
use Rattle.pay_meaning.specs.Language.{Body}
use Rattle.pay_meaning.specs.Parts.{body_parts, payment_count}

-- a count, or one more than a limit where it is greater
abbrev pub up_to : ℕ → ℕ → ℕ
up_to limit count = if nat_le count limit then count else limit + 1

-- how many numbers, conditions and statements a body has, counted up to 262,145
abbrev pub size_of : Body → ℕ
size_of body = up_to 262_144 (length (body_parts body))

-- how many payments a body has, counted up to 16,385
abbrev pub pays_of : Body → ℕ
pays_of body = up_to 16_384 (payment_count (body_parts body))
