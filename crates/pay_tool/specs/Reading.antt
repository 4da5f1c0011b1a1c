-- What reading the inputs of a run, one after the other, does to a depot and to the run. The contracts of the functions that read them cite it.
use Rattle.std.specs.Prelude.{◌≡◌, ℕ, ◌+◌, ◌≤◌, List, map, Option, Some, None}
use Rattle.pay_edge.specs.Edge.{Files}
use Rattle.pay_meaning.specs.Meaning.{Cells, Past}
use Rattle.pay_tables.specs.FixingsFile.{IsInOrder}
use Rattle.pay_tool.specs.declared.exit.Exit.{Exit}
use Rattle.pay_inputs.specs.declared.input.InputStop.{InputStop}
use Rattle.pay_words.specs.Requests.{Asked, PastWords}
use Rattle.pay_inputs.specs.Inputs.{past_of, good}
use Rattle.pay_tool.specs.Causes.{InputFile, IsNoneOf, SameBeyond, names_fetched, Caused}
use Rattle.pay_tool.specs.Exits.{exit_at}
use Rattle.pay_tool.specs.Fetches.{fetches_of, most_fetches}
use Rattle.pay_inputs.specs.InputStops.{StopsAt}

-- what is seen of a depot: its files, the counts of read faults by name, and how often it was fetched from
pub record Seen : Type 0 where
  pub files : Option Files
  pub reads : List ℕ → ℕ
  pub fetches : ℕ

abbrev pub seen_of : {D : Type 0} → (D → Option Files) → (D → List ℕ → ℕ) → (D → ℕ) → D → Seen
seen_of files reads fetches depot = record { files = files depot; reads = reads depot; fetches = fetches depot }

-- The files stand, no count of read faults fell, and only counts of these inputs rose. No more was fetched than they may take.
pub record HaveRead (inputs : List InputFile) (old new : Seen) : Type 0 where
  pub files : new.files ≡ old.files
  pub later : (name : List ℕ) → old.reads name ≤ new.reads name
  pub others : (other : List ℕ) → IsNoneOf (map (λ input. input.name) inputs) other → new.reads other ≡ old.reads other
  pub fetches : new.fetches ≤ old.fetches + fetches_of inputs

-- Only counts of the inputs of a request up to the first that isn't accepted rose, and no more was fetched than they may take.
pub record HasRead (asked : Asked) (old new : Seen) : Type 0 where
  pub others : SameBeyond (names_fetched (Some asked) old.files) old.reads new.reads
  pub fetches : new.fetches ≤ old.fetches + most_fetches (Some asked) old.files

-- these are the past fixings that are asked for, in order of date; or none are asked for
abbrev pub ArePastAsked : Files → Option PastWords → Option Past → Type 0
ArePastAsked files None None = Unit {0}
ArePastAsked files None (Some past) = ⊥
ArePastAsked files (Some words) None = ⊥
ArePastAsked files (Some words) (Some past) =
    (past.asof ≡ words.asof) × ((cells : Cells) × (past_of files words.file ≡ good cells) × IsInOrder cells past.cells)

-- past fixings are asked for, and they ended the request so
abbrev pub StopsAtPast : Option PastWords → Seen → Seen → Exit → Type 0
StopsAtPast None old new exit = ⊥
StopsAtPast (Some words) old new exit =
    (stop : InputStop) × (exit ≡ exit_at words.file stop)
    × StopsAt old.files (λ files. past_of files words.file) (old.reads words.file) (new.reads words.file) stop

-- an exit for its cause, where nothing was put
abbrev pub IsCausedEarly : Asked → Seen → Seen → Exit → Type 0
IsCausedEarly asked old new exit =
    (text : Option (List ℕ)) (faults : ℕ) → Caused (Some asked) (record {
      files = old.files;
      reads = old.reads;
      reads' = new.reads;
      text = text;
      text' = text;
      faults = faults;
      faults' = faults;
    }) exit
