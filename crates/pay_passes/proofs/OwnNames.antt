-- The events of a script use no other names than its own.
use Rattle.std.proofs.Common.{◌≡◌, ℕ, Bool, true, not, inl, inr, List, [], ◌∷◌, ◌++◌, map, filter, Option, Some, None, refl, sym, ap, ◌∙◌}
use Rattle.std.proofs.lemmas.Bool.{cases_Bool, and_parts, and_from, or_cases, or_left, or_right}
use Rattle.std.proofs.lemmas.List.Folds.{list_all-append}
use Rattle.std.proofs.lemmas.Slice.Eq.{bytes_eq-Decides}
use Rattle.std.specs.List.{list_all}
use Rattle.std.specs.Prelude.{int_lt}
use Rattle.std.specs.Str.{bytes_eq}
use Rattle.pay_dates.specs.declared.roll.Roll.{Roll}
use Rattle.pay_meaning.specs.Language.{Body, Event, Item, plain, scheduled, Script}
use Rattle.pay_meaning.specs.Events.{rolls_by, rolled_event, events_in, all_events, number_of, placed, in_order, events_of}
use Rattle.pay_meaning.specs.Parts.{Part, Role, body_parts, item_parts, script_parts, name_in, with_name, names_in, each_once, names_of}
use Rattle.pay_passes.specs.Numbering.{is_one_of, use_own, events_use_own}

-- what passes a test passes a weaker one
all_weaker : {A : Type 0} (p q : A → Bool) → ((x : A) → p x ≡ true → q x ≡ true) → (xs : List A) → list_all p xs ≡ true → list_all q xs ≡ true
all_weaker p q weaker [] all = refl
all_weaker p q weaker (x ∷ xs) all =
    let parts = and_parts (p x) (list_all p xs) all in
    and_from (q x) (list_all q xs) (weaker x parts.0) (all_weaker p q weaker xs parts.1)

-- what passes a test in two lists passes it in each
all_parts : {A : Type 0} (p : A → Bool) (xs ys : List A) → list_all p (xs ++ ys) ≡ true → (list_all p xs ≡ true) × (list_all p ys ≡ true)
all_parts p xs ys all = and_parts (list_all p xs) (list_all p ys) (sym (list_all-append p xs ys) ∙ all)

-- the names that are left where another one comes first
abbrev others : List ℕ → List (List ℕ) → List (List ℕ)
others name names = filter (λ one. not (bytes_eq name one)) names

-- a name of a list is still there where another one comes first and is dropped behind
still_there : (name other : List ℕ) (names : List (List ℕ)) → is_one_of names other ≡ true → is_one_of (name ∷ others name names) other ≡ true
still_there name other [] there = cc
still_there name other (first ∷ rest) there = elim (cases_Bool (bytes_eq name first)) [
  | inl same ↦
      rw same (elim (or_cases (bytes_eq first other) (is_one_of rest other) there) [
        | inl here ↦ or_left (bytes_eq name other) _ (rw ((bytes_eq-Decides name first).0 same) here)
        | inr behind ↦ still_there name other rest behind
      ])
  | inr differs ↦
      rw differs (elim (or_cases (bytes_eq first other) (is_one_of rest other) there) [
        | inl here ↦ or_right (bytes_eq name other) _ (or_left (bytes_eq first other) _ here)
        | inr behind ↦ elim (or_cases (bytes_eq name other) (is_one_of (others name rest) other) (still_there name other rest behind)) [
          | inl named ↦ or_left (bytes_eq name other) _ named
          | inr more ↦ or_right (bytes_eq name other) _ (or_right (bytes_eq first other) _ more)
        ]
      ])
]

-- each name of a list is there when each is there once
all_once : (names : List (List ℕ)) → list_all (is_one_of (each_once names)) names ≡ true
all_once [] = refl
all_once (name ∷ rest) =
    and_from _ _ (or_left (bytes_eq name name) _ ((bytes_eq-Decides name name).1 refl))
    (all_weaker (is_one_of (each_once rest)) (is_one_of (each_once (name ∷ rest))) (λ other. still_there name other (each_once rest)) rest (all_once rest))

-- a name before two lists
with_front : (name : Option (List ℕ)) (xs ys : List (List ℕ)) → with_name name (xs ++ ys) ≡ with_name name xs ++ ys
with_front None xs ys = refl
with_front (Some name) xs ys = refl

-- the names of parts and of those after them
names_in-append : (role : Role) (xs ys : List Part) → names_in role (xs ++ ys) ≡ names_in role xs ++ names_in role ys
names_in-append role [] ys = refl
names_in-append role (part ∷ xs) ys = ap (with_name (name_in role part)) (names_in-append role xs ys) ∙ with_front (name_in role part) _ _

-- where parts use own names, so do those at the front and those behind
pub own_parts : (role : Role) (names : List (List ℕ)) (xs ys : List Part) → use_own role names (xs ++ ys) ≡ true
    → (use_own role names xs ≡ true) × (use_own role names ys ≡ true)
own_parts role names xs ys own =
    all_parts (is_one_of names) (names_in role xs) (names_in role ys) (sym (ap (list_all (is_one_of names)) (names_in-append role xs ys)) ∙ own)

-- the events of rolls have one body
rolled_own : (role : Role) (names : List (List ℕ)) (body : Body) (rolls : List Roll) → use_own role names (body_parts body) ≡ true
    → events_use_own role names (map (rolled_event body) rolls) ≡ true
rolled_own role names body [] own = refl
rolled_own role names body (roll ∷ rest) own = and_from (use_own role names (body_parts body)) _ own (rolled_own role names body rest own)

-- the events of an item use the names of its parts
item_own : (role : Role) (names : List (List ℕ)) (item : Item) → use_own role names (item_parts item) ≡ true → events_use_own role names (events_in item) ≡ true
item_own role names (plain date body) own = and_from (use_own role names (body_parts body)) true own refl
item_own role names (scheduled terms body) own = rolled_own role names body (rolls_by terms) own

-- and so do those of a script
script_own : (role : Role) (names : List (List ℕ)) (script : Script) → use_own role names (script_parts script) ≡ true
    → events_use_own role names (all_events script) ≡ true
script_own role names [] own = refl
script_own role names (item ∷ rest) own =
    let each = own_parts role names (item_parts item) (script_parts rest) own in
    list_all-append (λ event. use_own role names (body_parts event.body)) (events_in item) (all_events rest)
    ∙ and_from (events_use_own role names (events_in item)) (events_use_own role names (all_events rest)) (item_own role names item each.0)
    (script_own role names rest each.1)

-- what holds of an event and of each of others holds of them where it is placed among these
placed_all : (p : Event → Bool) (event : Event) (events : List Event) → p event ≡ true → list_all p events ≡ true → list_all p (placed event events) ≡ true
placed_all p event [] holds all = and_from (p event) true holds all
placed_all p event (first ∷ rest) holds all =
    let parts = and_parts (p first) (list_all p rest) all in
    elim (cases_Bool (int_lt (number_of first) (number_of event))) [
      | inl earlier ↦ rw earlier (and_from (p first) _ parts.0 (placed_all p event rest holds parts.1))
      | inr follows ↦ rw follows (and_from (p event) _ holds all)
    ]

-- what holds of each event holds of each in order of date
ordered_all : (p : Event → Bool) (events : List Event) → list_all p events ≡ true → list_all p (in_order events) ≡ true
ordered_all p [] all = refl
ordered_all p (event ∷ rest) all =
    let parts = and_parts (p event) (list_all p rest) all in
    placed_all p event (in_order rest) parts.0 (ordered_all p rest parts.1)

-- the events of a script use its names alone
pub own_names : (role : Role) (script : Script) → events_use_own role (names_of role script) (events_of script) ≡ true
own_names role script =
    let names = names_of role script in
    let own = script_own role names script (all_once (names_in role (script_parts script))) in
    ordered_all (λ event. use_own role names (body_parts event.body)) (all_events script) own
