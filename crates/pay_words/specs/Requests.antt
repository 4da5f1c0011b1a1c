-- What the words of a command line ask for.
use Rattle.std.specs.Prelude.{ℕ, nat_eq, codes, Bool, true, false, not, ◌&&◌, ◌||◌, List, [], ◌∷◌, map, Option, Some, None, if◌then◌else◌}
use Rattle.std.specs.Prelude.{Vec, String, string_bytes}
use Rattle.std.specs.declared.alloc.Global.{Global}
use Rattle.std.specs.List.{list_all}
use Rattle.std.specs.Option.{is_none, option_map, option_and_then}
use Rattle.std.specs.Str.{bytes_eq}
use Rattle.pay_dates.specs.Days.{day_in}
use Rattle.pay_dates.specs.declared.day.Day.{Day}

-- the words of past fixings: the name of their file, and the last date at which they count
pub record PastWords : Type 0 where
  pub file : List ℕ
  pub asof : Day

-- the words of a run: the name of a script file, that of a scenario file, and perhaps past fixings
pub record RunWords : Type 0 where
  pub script : List ℕ
  pub scenarios : List ℕ
  pub past : Option PastWords

-- a request: `run` with its words, or `check`, `events` or `explain` with the name of a script file
pub data Asked : Type 0 where
  run : RunWords → Asked
  check_of : List ℕ → Asked
  list_of : List ℕ → Asked
  explain_of : List ℕ → Asked

-- the word begins with `--`
abbrev pub is_option : List ℕ → Bool
is_option [] = false
is_option (first ∷ []) = false
is_option (first ∷ second ∷ rest) = nat_eq first 45 && nat_eq second 45

-- a word that isn't empty and doesn't begin with `--`
abbrev pub is_file_name : List ℕ → Bool
is_file_name [] = false
is_file_name (first ∷ rest) = not (is_option (first ∷ rest))

-- what is asked of the file that a word names, if it names one
abbrev pub with_file : (List ℕ → Asked) → List ℕ → Option Asked
with_file asks word = if is_file_name word then Some (asks word) else None

-- an option: its name and its value
abbrev pub Given : Type 0
Given = List ℕ × List ℕ

-- words as options, two by two, if their number is even
abbrev pub options_in : List (List ℕ) → Option (List Given)
options_in [] = Some []
options_in (word ∷ []) = None
options_in (name ∷ value ∷ rest) = option_map (λ options. (name, value) ∷ options) (options_in rest)

-- an option of `run`: past fixings, or the last date at which they count
abbrev pub is_run_option : Given → Bool
is_run_option option = bytes_eq option.0 (codes "--fixings") || bytes_eq option.0 (codes "--asof")

-- the value of the first option of this name
abbrev pub value_of : List ℕ → List Given → Option (List ℕ)
value_of name [] = None
value_of name (option ∷ rest) = if bytes_eq option.0 name then Some option.1 else value_of name rest

-- no two options have one name
abbrev pub are_once : List Given → Bool
are_once [] = true
are_once (option ∷ rest) = is_none (value_of option.0 rest) && are_once rest

-- the values of the options of `run`, where they are given
pub record RunOptions : Type 0 where
  pub fixings : Option (List ℕ)
  pub asof : Option (List ℕ)

-- the values of options by their names
abbrev pub values_in : List Given → RunOptions
values_in options = record {
  fixings = value_of (codes "--fixings") options;
  asof = value_of (codes "--asof") options;
}

-- the values of options, if each is an option of `run`, and no two have one name
abbrev pub run_options : List Given → Option RunOptions
run_options options = if list_all is_run_option options && are_once options then Some (values_in options) else None

-- past fixings are asked for by both the name of their file and a date, or not at all
abbrev pub past_words : Option (List ℕ) → Option (List ℕ) → Option (Option PastWords)
past_words None None = Some None
past_words None (Some asof) = None
past_words (Some file) None = None
past_words (Some file) (Some asof) = if is_file_name file then option_map (λ date. Some (record { file = file; asof = date })) (day_in asof) else None

-- the past fixings that options ask for, or not
abbrev pub past_in : RunOptions → Option (Option PastWords)
past_in options = past_words options.fixings options.asof

-- the run of these files with these options
abbrev pub run_with : List ℕ → List ℕ → RunOptions → Option Asked
run_with script scenarios options =
    option_map (λ past. run (record { script = script; scenarios = scenarios; past = past })) (past_in options)

-- the run of these files with the options of these words
abbrev pub run_of : List ℕ → List ℕ → List (List ℕ) → Option Asked
run_of script scenarios words = option_and_then (run_with script scenarios) (option_and_then run_options (options_in words))

-- the request of these words, or none
unfoldable pub request_of : List (List ℕ) → Option Asked
request_of [] = None
request_of (command ∷ []) = None
request_of (command ∷ script ∷ []) =
    if bytes_eq command (codes "check") then with_file check_of script
    else if bytes_eq command (codes "events") then with_file list_of script
    else if bytes_eq command (codes "explain") then with_file explain_of script else None
request_of (command ∷ script ∷ scenarios ∷ options) =
    if bytes_eq command (codes "run") && is_file_name script && is_file_name scenarios then run_of script scenarios options else None

-- the request of a list of words
abbrev pub asked_in : Vec (String Global) Global → Option Asked
asked_in words = request_of (map string_bytes words.items)
