-- What the code's facts are, what they have to be, and the words of the steps in which a walk goes through a choice.
use Rattle.std.specs.Prelude.{ℕ, Bool, true, false, List, [], ◌∷◌, get_or, set, Option, Some, None}
use Rattle.pay_domains.specs.declared.piece.Piece.{Piece}
use Rattle.pay_domains.specs.Pieces.{AreRaws, IsDomain}
use Rattle.pay_domains.specs.Operators.{united}
use Rattle.pay_facts.specs.SlotFacts.{SlotDomains, slot_domain, SlotFacts}
use Rattle.pay_analysis.specs.declared.facts.Facts.{Facts}

-- what facts of the code are
abbrev pub slot_facts : Facts → SlotFacts
slot_facts facts = record { domains = facts.domains.items; known = facts.known }

-- the raws of each variable are a domain
abbrev pub AreDomains : SlotDomains → Type 0
AreDomains domains = (slot : ℕ) → IsDomain (slot_domain domains slot)

-- the raws of each variable lie within the limit of a number
abbrev pub AreAllRaws : SlotDomains → Type 0
AreAllRaws domains = (slot : ℕ) → AreRaws (slot_domain domains slot)

-- an answer is decided, and false; or true
abbrev pub is_false : Option Bool → Bool
is_false None = false
is_false (Some true) = false
is_false (Some false) = true

abbrev pub is_true : Option Bool → Bool
is_true None = false
is_true (Some true) = true
is_true (Some false) = false

-- the raws of these variables
abbrev pub domains_of : SlotDomains → List ℕ → SlotDomains
domains_of domains [] = []
domains_of domains (slot ∷ rest) = slot_domain domains slot ∷ domains_of domains rest

-- these variables have these raws now, one after the other
abbrev pub all_put : SlotDomains → List ℕ → SlotDomains → SlotDomains
all_put domains [] kept = domains
all_put domains (slot ∷ rest) [] = domains
all_put domains (slot ∷ rest) (first ∷ kept) = all_put (set domains slot first) rest kept

-- what comes out when these are put, one after the other: the raws that each variable had, or where there is no such variable those that were put
abbrev pub put_out : SlotDomains → List ℕ → SlotDomains → SlotDomains
put_out domains [] kept = kept
put_out domains (slot ∷ rest) [] = []
put_out domains (slot ∷ rest) (first ∷ kept) = get_or domains slot first ∷ put_out (set domains slot first) rest kept

-- these variables have these raws too, one after the other
abbrev pub all_joined_with : SlotDomains → List ℕ → SlotDomains → SlotDomains
all_joined_with domains [] kept = domains
all_joined_with domains (slot ∷ rest) [] = domains
all_joined_with domains (slot ∷ rest) (first ∷ kept) = all_joined_with (set domains slot (united first (slot_domain domains slot))) rest kept
