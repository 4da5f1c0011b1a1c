-- The line that is put to `err`: why a request did not end with its whole answer.
use Rattle.std.specs.Prelude.{◌≡◌, ℕ, codes, List, [], ◌++◌, Option, IfSome}
use Rattle.std.specs.Fmt.{decimal}
use Rattle.pay_dates.specs.Days.{day_text}
use Rattle.pay_edge.specs.Edge.{Files, appended}
use Rattle.pay_roll.specs.declared.refusal.What.{What}
use Rattle.pay_roll.specs.declared.refusal.What.TheVariants.{Events, Nodes, Pays, Rows, Columns, Variables, Legs}
use Rattle.pay_tool.specs.declared.exit.Exit.{Exit}
use Rattle.pay_tool.specs.declared.exit.Exit.TheVariants as exit
use Rattle.pay_inputs.specs.declared.refusal.Refusal.{Refusal}
use Rattle.pay_inputs.specs.declared.refusal.Refusal.TheVariants.{TooLong, BadByte, TooLarge, TooDeep, NotScript, BadSchedule, SameDate, TooMany}
use Rattle.pay_inputs.specs.declared.refusal.Refusal.TheVariants.{BadHeader, BadDate, RepeatedDate, BadRow, BadName, BadCell}
use Rattle.pay_words.specs.Requests.{Asked}
use Rattle.pay_tool.specs.Answers.{answer_of}
use Rattle.pay_tool.specs.Causes.{IsInputName, IsRefusedFor, IsUnread}

-- what there are too many of
abbrev pub what_text : What → List ℕ
what_text Events = codes "events"
what_text Nodes = codes "nodes"
what_text Pays = codes "payments"
what_text Rows = codes "rows"
what_text Columns = codes "columns"
what_text Variables = codes "variables"
what_text Legs = codes "legs"

-- what is wrong at a byte
abbrev pub byte_text : ℕ → List ℕ → List ℕ
byte_text at text = codes "byte " ++ (decimal at ++ (codes ": " ++ text))

-- what is wrong at a place of a table's dates, or in a row
abbrev pub place_text : ℕ → List ℕ → List ℕ
place_text place text = codes "place " ++ (decimal place ++ (codes ": " ++ text))

abbrev pub row_text : ℕ → List ℕ → List ℕ
row_text row text = codes "row " ++ (decimal row ++ (codes ": " ++ text))

-- why a file is refused
abbrev pub refusal_text : Refusal → List ℕ
refusal_text (TooLong limit) = codes "longer than " ++ (decimal limit ++ codes " bytes")
refusal_text (BadByte at) = byte_text at (codes "no token begins here")
refusal_text (TooLarge at) = byte_text at (codes "token too large")
refusal_text (TooDeep at) = byte_text at (codes "nested too deep")
refusal_text NotScript = codes "not a script"
refusal_text (BadSchedule item) = codes "item " ++ (decimal item ++ codes ": bad schedule")
refusal_text (SameDate date) = codes "two events on " ++ day_text date
refusal_text (TooMany what limit) = codes "more than " ++ (decimal limit ++ (codes " " ++ what_text what))
refusal_text BadHeader = codes "bad header"
refusal_text (BadDate place) = place_text place (codes "bad date")
refusal_text (RepeatedDate place) = place_text place (codes "repeated date")
refusal_text (BadRow row) = row_text row (codes "wrong number of fields")
refusal_text (BadName row) = row_text row (codes "bad name")
refusal_text (BadCell row column) = codes "row " ++ (decimal row ++ (codes ", column " ++ (decimal column ++ codes ": bad number")))

-- a line of the program
abbrev pub told_line : List ℕ → List ℕ
told_line text = codes "payscript: " ++ (text ++ codes "\n")

-- a line about a file
abbrev pub file_line : List ℕ → List ℕ → List ℕ
file_line name text = told_line (name ++ (codes ": " ++ text))

-- the line of an exit: none where the whole answer was given
abbrev pub line_of : Exit → List ℕ
line_of exit.Done = []
line_of exit.NotRequest = told_line (codes "words not understood")
line_of (exit.Refused name refusal) = file_line name (refusal_text refusal)
line_of (exit.Unread name) = file_line name (codes "read fault")
line_of exit.Unwritten = told_line (codes "write fault")
line_of exit.NoMemory = told_line (codes "out of memory")

-- an exit that names an input
abbrev pub NamesInput : Exit → Type 0
NamesInput exit.Done = ⊥
NamesInput exit.NotRequest = ⊥
NamesInput (exit.Refused name refusal) = Unit {0}
NamesInput (exit.Unread name) = Unit {0}
NamesInput exit.Unwritten = ⊥
NamesInput exit.NoMemory = ⊥

-- The line that a status tells: none at 0; at 3 the input that is refused and why; at 4 an input whose count of read faults rose, each input
-- before it being accepted, or the absent file that the answer is.
pub data Tells (asked : Option Asked) (told : Option Files) (before now : List ℕ → ℕ) : ℕ → List ℕ → Type 0 where
  nothing : Tells asked told before now 0 []
  of_words : Tells asked told before now 2 (told_line (codes "words not understood"))
  of_refusal : (name : List ℕ) (refusal : Refusal) → IsInputName asked name → IfSome told (λ files. IsRefusedFor name refusal (answer_of asked files))
      → Tells asked told before now 3 (file_line name (refusal_text refusal))
  of_read : (name : List ℕ) → IsUnread asked told before now name → Tells asked told before now 4 (file_line name (codes "read fault"))
  of_write : Tells asked told before now 5 (told_line (codes "write fault"))
  of_memory : Tells asked told before now 6 (told_line (codes "out of memory"))

-- the text of `err` has grown by the line that the status tells
pub record TellsLine (asked : Option Asked) (told : Option Files) (before now : List ℕ → ℕ) (status : ℕ) (text text' : Option (List ℕ)) : Type 0 where
  pub line : List ℕ
  pub tells : Tells asked told before now status line
  pub put : text' ≡ appended text line
