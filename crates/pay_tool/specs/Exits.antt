-- How the tool ends, and its exit statuses.
use Rattle.std.specs.Prelude.{ℕ, List}
use Rattle.pay_tool.specs.declared.exit.Exit.{Exit}
use Rattle.pay_tool.specs.declared.exit.Exit.TheVariants.{Done, NotRequest, Refused, Unread, Unwritten, NoMemory}
use Rattle.pay_inputs.specs.declared.input.InputStop.{InputStop}
use Rattle.pay_inputs.specs.declared.input.InputStop.TheVariants as input
use Rattle.pay_scenarios.specs.declared.put.PutStop.{PutStop}
use Rattle.pay_scenarios.specs.declared.put.PutStop.TheVariants as put

-- the exit status
abbrev pub status_of : Exit → ℕ
status_of Done = 0
status_of NotRequest = 2
status_of (Refused name refusal) = 3
status_of (Unread name) = 4
status_of Unwritten = 5
status_of NoMemory = 6

-- the exit of a request that stopped at the input of this name
abbrev pub exit_at : List ℕ → InputStop → Exit
exit_at name (input.Refused refusal) = Refused name refusal
exit_at name input.Unread = Unread name
exit_at name input.NoMemory = NoMemory

-- the exit of a request whose report was not put whole
abbrev pub exit_of_put : PutStop → Exit
exit_of_put put.Failed = Unwritten
exit_of_put put.NoMemory = NoMemory
