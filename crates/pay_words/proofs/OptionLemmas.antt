-- The words of options, taken from the last option to the first.
use Rattle.std.proofs.Common.{◌≡◌, ◌≢◌, ◌<◌, ◌==◌, ℕ, ◌+◌, ◌-◌, List, [], ◌∷◌, ◌++◌, length, get_or, take, drop, map, Bool, true, false, ◌&&◌, if◌then◌else◌}
use Rattle.std.proofs.Common.{Option, Some, None, codes, refl, sym, ap, ap₂, ◌∙◌, inl, inr, arith, length-drop}
use Rattle.std.specs.Bool.{then_some}
use Rattle.std.specs.List.{list_all}
use Rattle.std.specs.Option.{is_none, option_map, option_and_then}
use Rattle.std.specs.Str.{bytes_eq}
use Rattle.std.proofs.lemmas.Bool.{cases_Bool, ne_eqb}
use Rattle.std.proofs.lemmas.List.{map-append, take-append-drop}
use Rattle.std.proofs.lemmas.Slice.Eq.{bytes_eq-Decides}
use Rattle.pay_dates.specs.Days.{day_in}
use Rattle.pay_dates.proofs.DayLemmas.{day_in-no_form}
use Rattle.pay_words.specs.Requests.{Given, RunOptions, is_run_option, are_once, options_in, values_in, run_options}
use Rattle.pay_words.specs.OptionViews.{with_option}

-- a text of another length is no day
pub day_in_other : (text : List ℕ) → length text ≢ 10 → day_in text ≡ None
day_in_other text other = day_in-no_form text (rw (ne_eqb (length text) 10 other) refl)

-- an option before others
abbrev with_first : Given → Option RunOptions → Option RunOptions
with_first option others = option_and_then (λ options. with_option options option) others

-- words before other options
abbrev pub joined : List (List ℕ) → Option RunOptions → Option RunOptions
joined [] others = others
joined (word ∷ []) others = None
joined (name ∷ value ∷ words) others = with_first (name, value) (joined words others)

-- an option of `run` joins others where they have no value of its name
kept : (option : Given) (make : Option (List ℕ) → RunOptions)
    → ((old : Option (List ℕ)) → with_option (make old) option ≡ (if is_none old then Some (make (Some option.1)) else None))
    → (known once : Bool) (old : Option (List ℕ))
    → (if known && (is_none old && once) then Some (make (Some option.1)) else None) ≡ with_first option (if known && once then Some (make old) else None)
kept option make is true true None = sym (is None)
kept option make is true true (Some value) = sym (is (Some value))
kept option make is true false None = refl
kept option make is true false (Some value) = refl
kept option make is false once old = refl

-- where nothing follows from a value, nothing follows
then-none : {A B : Type 0} (f : A → Option B) (x : Option A) → ((value : A) → f value ≡ None) → option_and_then f x ≡ None
then-none f None h = refl
then-none f (Some value) h = h value

-- a name is one that is asked for, or another
by_name : {P : Type 0} (name asked : List ℕ) → (name ≡ asked → P) → (bytes_eq name asked ≡ false → P) → P
by_name name asked is not =
    elim (cases_Bool (bytes_eq name asked)) [ inl same ↦ is ((bytes_eq-Decides name asked).0 same) | inr other ↦ not other ]

-- the first of some options joins the others
run_options-cons : (option : Given) (others : List Given) → run_options (option ∷ others) ≡ with_first option (run_options others)
run_options-cons (name, value) others =
    let known = list_all is_run_option others in
    let once = are_once others in
    let given = values_in others in
    by_name name (codes "--fixings")
    (λ same. rw same (kept (codes "--fixings", value) (λ old. record given { fixings = old }) (λ old. refl) known once given.fixings))
    (λ not_fixings.
    by_name name (codes "--asof")
    (λ same. rw same (kept (codes "--asof", value) (λ old. record given { asof = old }) (λ old. refl) known once given.asof))
    (λ not_asof.
    rw (not_fixings, not_asof) (sym (then-none _ (run_options others) (λ options. refl)))))

-- options are read from words as from the last option to the first
pub read-joined : (words : List (List ℕ)) → option_and_then run_options (options_in words) ≡ joined words (Some (values_in []))
read-joined [] = refl
read-joined (word ∷ []) = refl
read-joined (name ∷ value ∷ words) = rw (← read-joined words) (at (options_in words))
  where
    at : (others : Option (List Given))
        → option_and_then run_options (option_map (λ options. (name, value) ∷ options) others) ≡ with_first (name, value) (option_and_then run_options others)
    at None = refl
    at (Some others) = run_options-cons (name, value) others

-- the last two words are an option before the others
joined-last : (front : List (List ℕ)) (name value : List ℕ) (others : Option RunOptions)
    → joined (front ++ name ∷ value ∷ []) others ≡ joined front (with_first (name, value) others)
joined-last [] name value others = refl
joined-last (word ∷ []) name value others = refl
joined-last (first ∷ second ∷ front) name value others = ap (with_first (first, second)) (joined-last front name value others)

-- words before what are no options are none
pub joined-none : (words : List (List ℕ)) → joined words None ≡ None
joined-none [] = refl
joined-none (word ∷ []) = refl
joined-none (name ∷ value ∷ words) = rw (joined-none words) refl

-- a list of two is its elements
two : {A : Type 0} (pair : List A) (x y : A) → length pair ≡ 2 → pair ≡ get_or pair 0 x ∷ get_or pair 1 y ∷ []
two [] x y size = absurd (omega arith)
two (first ∷ []) x y size = absurd (omega arith)
two (first ∷ second ∷ []) x y size = refl
two (first ∷ second ∷ third ∷ rest) x y size = absurd (omega arith)

-- words of which the last two are cut off, as an option before others
pub joined-next : {A : Type 0} (text : A → List ℕ) (words front pair : List A) (x y : A) (others : RunOptions) (next : Option RunOptions)
    → (front ≡ take (length words - 2) words) × (pair ≡ drop (length words - 2) words) × (length front + 2 ≡ length words)
    → next ≡ with_option others (text (get_or pair 0 x), text (get_or pair 1 y))
    → joined (map text words) (Some others) ≡ joined (map text front) next
joined-next text words front pair x y others next cut is =
    let size : length pair ≡ 2 = omega (arith, ap length cut.1, length-drop (length words - 2) words) in
    let whole : words ≡ front ++ pair = sym (take-append-drop (length words - 2) words) ∙ sym (ap₂ ◌++◌ cut.0 cut.1) in
    let last : pair ≡ get_or pair 0 x ∷ get_or pair 1 y ∷ [] = two pair x y size in
    rw (whole, last, map-append, is) (joined-last (map text front) (text (get_or pair 0 x)) (text (get_or pair 1 y)) (Some others))

-- fewer words than an option has: none is left, or a name with no value
pub joined-end : {A B : Type 0} (text : A → List ℕ) (view : B → RunOptions) (words : List A) (others : B) → length words < 2
    → option_map view (then_some (length words == 0) others) ≡ joined (map text words) (Some (view others))
joined-end text view [] others few = refl
joined-end text view (word ∷ []) others few = refl
joined-end text view (first ∷ second ∷ words) others few = absurd (omega arith)
