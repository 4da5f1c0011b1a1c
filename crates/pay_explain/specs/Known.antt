-- What the facts of a trade have to be.
use Rattle.std.specs.Prelude.{◌≡◌, ℕ, List, [], ◌∷◌, length}
use Rattle.pay_fixed.specs.Round.{IsRaw}
use Rattle.pay_domains.specs.declared.piece.Piece.{Piece}
use Rattle.pay_facts.specs.SlotFacts.{SlotDomains}
use Rattle.pay_analysis.specs.Walking.{AreAllRaws, AreDomains}

-- the raws of the variables of these names are known: a domain for each name, whose raws lie within the limit of a number
pub record AreKnown (names : List (List ℕ)) (slots : SlotDomains) : Type 0 where
  pub one_each : length slots ≡ length names
  pub domains : AreDomains slots
  pub limits : AreAllRaws slots

-- both ends of a piece lie within the limit of a number
pub record HasRawEnds (p : Piece) : Type 0 where
  pub low : IsRaw p.low
  pub high : IsRaw p.high

-- the same of each piece
abbrev pub HaveRawEnds : List Piece → Type 0
HaveRawEnds [] = Unit {0}
HaveRawEnds (p ∷ rest) = HasRawEnds p × HaveRawEnds rest
