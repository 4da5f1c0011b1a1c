-- What is said of the events of a script: for each one, its simplified steps, and the raws that each variable can have after it.
use Rattle.std.specs.Prelude.{ℕ, pos, false, codes, List, [], ◌∷◌, ◌++◌, map, if◌then◌else◌}
use Rattle.std.specs.Ordering.{int_eq}
use Rattle.std.specs.Fmt.{decimal}
use Rattle.pay_dates.specs.Days.{day_text}
use Rattle.pay_fixed.specs.Decimal.{decimal_text}
use Rattle.pay_meaning.specs.Language.{Event}
use Rattle.pay_domains.specs.declared.piece.Piece.{Piece}
use Rattle.pay_domains.specs.Pieces.{point}
use Rattle.pay_facts.specs.Facts.{Domains}
use Rattle.pay_facts.specs.After.{after_event}
use Rattle.pay_facts.specs.SlotFacts.{SlotDomains, after_steps}
use Rattle.pay_passes.specs.Changes.{filled_steps}
use Rattle.pay_print.specs.StepText.{step_text}
use Rattle.pay_print.specs.TreeText as trees
use Rattle.pay_simplified.specs.Pruning.{pruned_steps}
use Rattle.pay_simplified.specs.Simplified.{simple_body}
use Rattle.pay_tree.specs.Owned.{StepsTree, EventTree}

-- a piece: its one raw, or `LOW to HIGH`
abbrev pub piece_text : Piece → List ℕ
piece_text p = if int_eq p.low p.high then decimal_text p.low else decimal_text p.low ++ (codes " to " ++ decimal_text p.high)

-- further pieces, each after ` | `
abbrev pub further_pieces_text : List Piece → List ℕ
further_pieces_text [] = []
further_pieces_text (p ∷ rest) = codes " | " ++ (piece_text p ++ further_pieces_text rest)

-- the pieces of a domain, with ` | ` between them; `none` where there is none
abbrev pub domain_text : List Piece → List ℕ
domain_text [] = codes "none"
domain_text (p ∷ rest) = piece_text p ++ further_pieces_text rest

-- the line of a variable: `  domain x: 0 | 1 to 2`
abbrev pub domain_line : List ℕ → List Piece → List ℕ
domain_line name pieces = codes "  domain " ++ (name ++ (codes ": " ++ (domain_text pieces ++ codes "\n")))

-- a line for each variable
abbrev pub domain_lines : List (List ℕ) → SlotDomains → List ℕ
domain_lines [] domains = []
domain_lines (name ∷ names) [] = []
domain_lines (name ∷ names) (pieces ∷ domains) = domain_line name pieces ++ domain_lines names domains

-- the line of an event: `event 2024-06-28 period 0 days 0`
abbrev pub event_heading : Event → List ℕ
event_heading event =
    codes "event " ++ (day_text event.date ++ (codes " period " ++ (decimal event.period ++ (codes " days " ++ (decimal event.days ++ codes "\n")))))

-- what is said of an event: its line, its simplified steps, and then the raws of each variable after it
abbrev pub event_text : List (List ℕ) → Event → Domains → List ℕ
event_text names event domains =
    event_heading event ++ (step_text names (simple_body event.body domains false event) ++ domain_lines names (map (after_event event domains) names))

-- what is said of events in their order, from these raws of the variables
abbrev pub explain_text : List (List ℕ) → List Event → Domains → List ℕ
explain_text names [] domains = []
explain_text names (event ∷ rest) domains = event_text names event domains ++ explain_text names rest (after_event event domains)

-- the raws of the variables by number after an event, at whose start the fixing is not known to be there
abbrev pub after_tree : EventTree → SlotDomains → SlotDomains
after_tree event domains = (after_steps event.steps domains false).domains

-- the line of an event of trees
abbrev pub tree_heading : EventTree → List ℕ
tree_heading event =
    codes "event " ++ (day_text event.date ++ (codes " period " ++ (decimal event.period ++ (codes " days " ++ (decimal event.days ++ codes "\n")))))

-- what is left of the steps of an event: its choices filled in, pruned, and filled in again, since less may be assigned then
abbrev pub left_steps : StepsTree → SlotDomains → StepsTree
left_steps steps domains = filled_steps (pruned_steps (filled_steps steps) domains false)

-- what is said of an event by the numbers of its variables and legs: its line, what is left of its steps, and then the raws of each variable after it
abbrev pub tree_text : List (List ℕ) → List (List ℕ) → EventTree → SlotDomains → List ℕ
tree_text names legs event domains =
    tree_heading event ++ (trees.tree_text names legs (left_steps event.steps domains) ++ domain_lines names (after_tree event domains))

-- what is said so of events in their order, from these raws of the variables
abbrev pub explain_trees : List (List ℕ) → List (List ℕ) → List EventTree → SlotDomains → List ℕ
explain_trees names legs [] domains = []
explain_trees names legs (event ∷ rest) domains = tree_text names legs event domains ++ explain_trees names legs rest (after_tree event domains)

-- what is said so of the first of these events; where there is none, nothing
abbrev pub first_text : List (List ℕ) → List (List ℕ) → List EventTree → SlotDomains → List ℕ
first_text names legs [] domains = []
first_text names legs (event ∷ rest) domains = tree_text names legs event domains

-- the raws of the variables after the first of these events; where there is none, those before
abbrev pub after_first : List EventTree → SlotDomains → SlotDomains
after_first [] domains = domains
after_first (event ∷ rest) domains = after_tree event domains

-- each variable is 0
abbrev pub zero_domains : List (List ℕ) → SlotDomains
zero_domains names = map (λ name. point (pos 0)) names
