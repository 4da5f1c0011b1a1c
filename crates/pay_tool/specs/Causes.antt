-- Why the tool ended as it did.
use Rattle.std.specs.Prelude.{◌≡◌, ◌≢◌, ℕ, ◌⊎◌, Bool, true, false, IsTrue, List, [], ◌∷◌, ◌++◌, map, Option, Some, None, IfSome, IsSome, IsSomeAnd}
use Rattle.std.specs.Prelude.{if◌then◌else◌}
use Rattle.pay_edge.specs.Edge.{Files, Rose, appended, AppendsFront}
use Rattle.pay_inputs.specs.declared.refusal.Refusal.{Refusal}
use Rattle.pay_tool.specs.declared.exit.Exit.{Exit}
use Rattle.pay_tool.specs.declared.exit.Exit.TheVariants.{Done, NotRequest, Refused, Unread, Unwritten, NoMemory}
use Rattle.pay_words.specs.Requests.{Asked, PastWords, run, check_of, list_of, explain_of}
use Rattle.pay_inputs.specs.Inputs.{Input, not_there, bad, good, script_of, past_of, table_of, script_limit, fixings_limit, table_limit}
use Rattle.pay_tool.specs.Answers.{Answer, no_request, absent, refused, report, answer_of}

-- an input is there and was not refused
abbrev pub is_accepted : {A : Type 0} → Input A → Bool
is_accepted not_there = false
is_accepted (bad refusal) = false
is_accepted (good value) = true

-- an input of a request: the name of its file, how many bytes that may have, and whether it is accepted among files
pub record InputFile : Type 0 where
  pub name : List ℕ
  pub limit : ℕ
  pub accepted : Files → Bool

abbrev pub script_input : List ℕ → InputFile
script_input name = record { name = name; limit = script_limit; accepted = λ files. is_accepted (script_of files name) }

abbrev pub past_input : PastWords → InputFile
past_input words = record { name = words.file; limit = fixings_limit; accepted = λ files. is_accepted (past_of files words.file) }

abbrev pub table_input : List ℕ → InputFile
table_input name = record { name = name; limit = table_limit; accepted = λ files. is_accepted (table_of files name) }

abbrev pub past_inputs : Option PastWords → List InputFile
past_inputs None = []
past_inputs (Some words) = past_input words ∷ []

-- the inputs of a request, in order
abbrev pub inputs_of : Asked → List InputFile
inputs_of (run words) = script_input words.script ∷ (past_inputs words.past ++ table_input words.scenarios ∷ [])
inputs_of (check_of script) = script_input script ∷ []
inputs_of (list_of script) = script_input script ∷ []
inputs_of (explain_of script) = script_input script ∷ []

-- the count of an input's name rose, and where the files are told each input before it is accepted
abbrev pub RoseAmong : List InputFile → Option Files → (List ℕ → ℕ) → (List ℕ → ℕ) → Type 0
RoseAmong [] told before now = ⊥
RoseAmong (input ∷ inputs) told before now =
    Rose (before input.name) (now input.name) ⊎ (IfSome told (λ files. IsTrue (input.accepted files)) × RoseAmong inputs told before now)

-- the count of read faults of an input of the request rose, and each input before it is accepted
abbrev pub ReadFault : Option Asked → Option Files → (List ℕ → ℕ) → (List ℕ → ℕ) → Type 0
ReadFault None told before now = ⊥
ReadFault (Some asked) told before now = RoseAmong (inputs_of asked) told before now

-- the inputs up to the first that isn't accepted
abbrev pub inputs_up_to : List InputFile → Files → List InputFile
inputs_up_to [] files = []
inputs_up_to (input ∷ inputs) files = input ∷ (if input.accepted files then inputs_up_to inputs files else [])

-- the inputs of a request that may be fetched; where the files aren't told, all of them
abbrev pub inputs_fetched : Option Asked → Option Files → List InputFile
inputs_fetched None told = []
inputs_fetched (Some asked) None = inputs_of asked
inputs_fetched (Some asked) (Some files) = inputs_up_to (inputs_of asked) files

-- their names
abbrev pub names_fetched : Option Asked → Option Files → List (List ℕ)
names_fetched asked told = map (λ input. input.name) (inputs_fetched asked told)

-- a name is none of these
abbrev pub IsNoneOf : List (List ℕ) → List ℕ → Type 0
IsNoneOf [] name = Unit {0}
IsNoneOf (first ∷ rest) name = (name ≢ first) × IsNoneOf rest name

-- counts by name stand, but for those of these names
pub record SameBeyond (names : List (List ℕ)) (old new : List ℕ → ℕ) : Type 0 where
  pub others : (other : List ℕ) → IsNoneOf names other → new other ≡ old other

-- the answer is a refused input
abbrev pub IsRefused : Answer → Type 0
IsRefused no_request = ⊥
IsRefused (absent name) = ⊥
IsRefused (refused name refusal) = Unit {0}
IsRefused (report text) = ⊥

-- the answer is the input of this name, refused for this reason
abbrev pub IsRefusedFor : List ℕ → Refusal → Answer → Type 0
IsRefusedFor named reason no_request = ⊥
IsRefusedFor named reason (absent name) = ⊥
IsRefusedFor named reason (refused name refusal) = (name ≡ named) × (refusal ≡ reason)
IsRefusedFor named reason (report text) = ⊥

-- the answer is an input whose file is not there
abbrev pub IsAbsentInput : Answer → Type 0
IsAbsentInput no_request = ⊥
IsAbsentInput (absent name) = Unit {0}
IsAbsentInput (refused name refusal) = ⊥
IsAbsentInput (report text) = ⊥

-- the answer is the input of this name, whose file is not there
abbrev pub IsAbsentAt : List ℕ → Answer → Type 0
IsAbsentAt named no_request = ⊥
IsAbsentAt named (absent name) = name ≡ named
IsAbsentAt named (refused name refusal) = ⊥
IsAbsentAt named (report text) = ⊥

-- one of these inputs has the name
abbrev pub IsNamed : List InputFile → List ℕ → Type 0
IsNamed [] name = ⊥
IsNamed (input ∷ inputs) name = (name ≡ input.name) ⊎ IsNamed inputs name

-- an input of the request has the name
abbrev pub IsInputName : Option Asked → List ℕ → Type 0
IsInputName None name = ⊥
IsInputName (Some asked) name = IsNamed (inputs_of asked) name

-- the input of this name is one whose count rose, and where the files are told each input before it is accepted
abbrev pub RoseAt : List InputFile → Option Files → (List ℕ → ℕ) → (List ℕ → ℕ) → List ℕ → Type 0
RoseAt [] told before now name = ⊥
RoseAt (input ∷ inputs) told before now name =
    ((name ≡ input.name) × Rose (before name) (now name)) ⊎ (IfSome told (λ files. IsTrue (input.accepted files)) × RoseAt inputs told before now name)

abbrev pub ReadFaultAt : Option Asked → Option Files → (List ℕ → ℕ) → (List ℕ → ℕ) → List ℕ → Type 0
ReadFaultAt None told before now name = ⊥
ReadFaultAt (Some asked) told before now name = RoseAt (inputs_of asked) told before now name

-- the input of this name could not be read: its count rose, or the answer is that its file is not there
abbrev pub IsUnread : Option Asked → Option Files → (List ℕ → ℕ) → (List ℕ → ℕ) → List ℕ → Type 0
IsUnread asked told before now name =
    ReadFaultAt asked told before now name ⊎ IsSomeAnd told (λ files. IsAbsentAt name (answer_of asked files))

-- the answer is a report
abbrev pub IsReport : Answer → Type 0
IsReport no_request = ⊥
IsReport (absent name) = ⊥
IsReport (refused name refusal) = ⊥
IsReport (report text) = Unit {0}

-- the answer is a report, and its text was appended
abbrev pub IsGiven : Answer → Option (List ℕ) → Option (List ℕ) → Type 0
IsGiven no_request text text' = ⊥
IsGiven (absent name) text text' = ⊥
IsGiven (refused name refusal) text text' = ⊥
IsGiven (report bytes) text text' = text' ≡ appended text bytes

-- a front of the answer's text was appended where the answer is a report, and nothing where it isn't
abbrev pub IsTextBegun : Answer → Option (List ℕ) → Option (List ℕ) → Type 0
IsTextBegun no_request text text' = text' ≡ text
IsTextBegun (absent name) text text' = text' ≡ text
IsTextBegun (refused name refusal) text text' = text' ≡ text
IsTextBegun (report bytes) text text' = AppendsFront text text' bytes

-- what is seen of a depot and of a sink before a request was served and, with a prime, afterwards: the files, which stand;
-- the counts of read faults by name; the text and the count of faults
pub record Ends : Type 0 where
  pub files : Option Files
  pub reads : List ℕ → ℕ
  pub reads' : List ℕ → ℕ
  pub text : Option (List ℕ)
  pub text' : Option (List ℕ)
  pub faults : ℕ
  pub faults' : ℕ

abbrev pub ends_of : {D O : Type 0} → (D → Option Files) → (D → List ℕ → ℕ) → (O → Option (List ℕ)) → (O → ℕ) → D → D → O → O → Ends
ends_of files reads text faults depot depot' out out' = record {
  files = files depot;
  reads = reads depot;
  reads' = reads depot';
  text = text out;
  text' = text out';
  faults = faults out;
  faults' = faults out';
}

-- Each exit comes only for its cause.
abbrev pub Caused : Option Asked → Ends → Exit → Type 0
Caused asked ends Done = IsSome asked × IfSome ends.files (λ files. IsGiven (answer_of asked files) ends.text ends.text')
Caused asked ends NotRequest = asked ≡ None
Caused asked ends (Refused name refusal) =
    IsSome asked × IsInputName asked name × IfSome ends.files (λ files. IsRefusedFor name refusal (answer_of asked files))
Caused asked ends (Unread name) = IsSome asked × IsUnread asked ends.files ends.reads ends.reads' name
Caused asked ends Unwritten =
    IsSome asked × Rose ends.faults ends.faults'
    × IfSome ends.files (λ files. IsReport (answer_of asked files) × IsTextBegun (answer_of asked files) ends.text ends.text')
Caused asked ends NoMemory = IsSome asked × IfSome ends.files (λ files. IsTextBegun (answer_of asked files) ends.text ends.text')

-- an exit before all inputs are accepted, by their fault or that of the words
abbrev pub IsEarly : Exit → Type 0
IsEarly Done = ⊥
IsEarly NotRequest = Unit {0}
IsEarly (Refused name refusal) = Unit {0}
IsEarly (Unread name) = Unit {0}
IsEarly Unwritten = ⊥
IsEarly NoMemory = ⊥
