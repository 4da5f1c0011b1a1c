-- What an exit says of the ends of a request.
use Rattle.std.proofs.Common.{◌≡◌, ℕ, List, [], Option, Some, None, IfSome, refl, sym, ap, arith}
use Rattle.std.proofs.Common.{append-nil}
use Rattle.pay_edge.specs.Edge.{Files, Rose, appended, AppendsFront}
use Rattle.pay_tool.specs.declared.exit.Exit.{Exit}
use Rattle.pay_tool.specs.declared.exit.Exit.TheVariants.{Done, NotRequest, Refused, Unread, Unwritten, NoMemory}
use Rattle.pay_words.specs.Requests.{Asked}
use Rattle.pay_tool.specs.Answers.{Answer, no_request, absent, refused, report, answer_to, answer_of}
use Rattle.pay_tool.specs.Causes.{IsGiven, IsReport, IsTextBegun, IsEarly, Ends, Caused}
use Rattle.pay_scenarios.specs.declared.put.PutStop.{PutStop}
use Rattle.pay_scenarios.specs.declared.put.PutStop.TheVariants as put
use Rattle.pay_tool.specs.Exits.{exit_of_put, status_of}
use Rattle.pay_tool.specs.Lines.{NamesInput, Tells, nothing, of_words, of_refusal, of_read, of_write, of_memory, line_of}

-- at status 0 the answer was given
pub done_given : (asked : Option Asked) (ends : Ends) (exit : Exit) → status_of exit ≡ 0 → Caused asked ends exit
    → IfSome ends.files (λ files. IsGiven (answer_of asked files) ends.text ends.text')
done_given asked ends Done e caused = caused.1
done_given asked ends NotRequest e caused = absurd (omega arith)
done_given asked ends (Refused name refusal) e caused = absurd (omega arith)
done_given asked ends (Unread name) e caused = absurd (omega arith)
done_given asked ends Unwritten e caused = absurd (omega arith)
done_given asked ends NoMemory e caused = absurd (omega arith)

-- a report that was put whole is the answer that was given
pub report_given : (asked : Asked) (bytes : List ℕ) (told : Option Files) (text text' : Option (List ℕ))
    → IfSome told (λ files. answer_to asked files ≡ report bytes) → text' ≡ appended text bytes
    → IfSome told (λ files. IsGiven (answer_of (Some asked) files) text text')
report_given asked bytes None text text' answer put = tt
report_given asked bytes (Some files) text text' answer put = rw answer put

-- a front of a report that is the answer was put
report_begun : (asked : Asked) (bytes : List ℕ) (told : Option Files) (text text' : Option (List ℕ))
    → IfSome told (λ files. answer_to asked files ≡ report bytes) → AppendsFront text text' bytes
    → IfSome told (λ files. IsTextBegun (answer_of (Some asked) files) text text')
report_begun asked bytes None text text' answer front = tt
report_begun asked bytes (Some files) text text' answer front = rw answer front

report_unwritten : (asked : Asked) (bytes : List ℕ) (told : Option Files) (text text' : Option (List ℕ))
    → IfSome told (λ files. answer_to asked files ≡ report bytes) → AppendsFront text text' bytes
    → IfSome told (λ files. IsReport (answer_of (Some asked) files) × IsTextBegun (answer_of (Some asked) files) text text')
report_unwritten asked bytes None text text' answer front = tt
report_unwritten asked bytes (Some files) text text' answer front = rw answer (tt, front)

-- the exit of a report that is the answer and was not put whole has its cause
pub report_stopped : (asked : Asked) (bytes : List ℕ) (ends : Ends) (stop : PutStop)
    → IfSome ends.files (λ files. answer_to asked files ≡ report bytes) → AppendsFront ends.text ends.text' bytes
    → (stop ≡ put.Failed → Rose ends.faults ends.faults') → Caused (Some asked) ends (exit_of_put stop)
report_stopped asked bytes ends put.Failed answer front rose =
    (refl, rose refl, report_unwritten asked bytes ends.files ends.text ends.text' answer front)
report_stopped asked bytes ends put.NoMemory answer front rose = (refl, report_begun asked bytes ends.files ends.text ends.text' answer front)

-- nothing appended is a front
nothing_begun : (text : Option (List ℕ)) (bytes : List ℕ) → AppendsFront text text bytes
nothing_begun None bytes = record { front = []; rest = bytes; split = refl; text = refl }
nothing_begun (Some text) bytes = record { front = []; rest = bytes; split = refl; text = ap Some (sym (append-nil text)) }

-- nothing put is a front of every answer
pub untouched_begun : (answer : Answer) (text text' : Option (List ℕ)) → text' ≡ text → IsTextBegun answer text text'
untouched_begun no_request text text' same = same
untouched_begun (absent name) text text' same = same
untouched_begun (refused name refusal) text text' same = same
untouched_begun (report bytes) text text' same = rw same (nothing_begun text bytes)

-- the same where the files are told
begun_if : (asked : Option Asked) (told : Option Files) (text text' : Option (List ℕ)) → text' ≡ text
    → IfSome told (λ files. IsTextBegun (answer_of asked files) text text')
begun_if asked None text text' same = tt
begun_if asked (Some files) text text' same = untouched_begun (answer_of asked files) text text' same

-- want of memory for the line of an exit that names an input
pub memory_instead : (asked : Option Asked) (ends : Ends) (exit : Exit) → Caused asked ends exit → NamesInput exit → ends.text' ≡ ends.text
    → Caused asked ends NoMemory
memory_instead asked ends Done caused names same = absurd names
memory_instead asked ends NotRequest caused names same = absurd names
memory_instead asked ends (Refused name refusal) caused names same = (caused.0, begun_if asked ends.files ends.text ends.text' same)
memory_instead asked ends (Unread name) caused names same = (caused.0, begun_if asked ends.files ends.text ends.text' same)
memory_instead asked ends Unwritten caused names same = absurd names
memory_instead asked ends NoMemory caused names same = absurd names

-- an exit that names an input is early
pub names_early : (exit : Exit) → NamesInput exit → IsEarly exit
names_early Done names = absurd names
names_early NotRequest names = absurd names
names_early (Refused name refusal) names = tt
names_early (Unread name) names = tt
names_early Unwritten names = absurd names
names_early NoMemory names = absurd names

-- the line of an exit is one that its status tells
pub exit_tells : (asked : Option Asked) (ends : Ends) (exit : Exit) → Caused asked ends exit
    → Tells asked ends.files ends.reads ends.reads' (status_of exit) (line_of exit)
exit_tells asked ends Done caused = nothing
exit_tells asked ends NotRequest caused = of_words
exit_tells asked ends (Refused name refusal) caused = of_refusal name refusal caused.1 caused.2
exit_tells asked ends (Unread name) caused = of_read name caused.1
exit_tells asked ends Unwritten caused = of_write
exit_tells asked ends NoMemory caused = of_memory
