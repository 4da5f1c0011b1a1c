-- What a sink in memory means.
use Rattle.std.specs.Prelude.{◌≡◌, ℕ, ◌+◌, Bool, ◌||◌, List, [], length, nat_lt}
use Rattle.std.specs.declared.option.Option.{Option}
use Rattle.std.specs.declared.option.Option.TheVariants.{Some}
use Rattle.pay_edge.specs.Failures.{is_planned}
use Rattle.pay_edge.specs.declared.memory_sink.MemorySink.{MemorySink}

-- all bytes put
abbrev pub sink_text : MemorySink → List ℕ
sink_text sink = sink.text.items

-- they are told
abbrev pub sink_told : MemorySink → Option (List ℕ)
sink_told sink = Some (sink_text sink)

-- how often a put failed
abbrev pub sink_faults : MemorySink → ℕ
sink_faults sink = sink.faults

-- how many puts there were
abbrev pub sink_puts : MemorySink → ℕ
sink_puts sink = sink.puts

-- the most bytes that it takes
abbrev pub sink_room : MemorySink → ℕ
sink_room sink = sink.room

-- the numbers of the puts that are to fail
abbrev pub planned_puts : MemorySink → List ℕ
planned_puts sink = sink.puts_to_fail.items

-- the next put, of so many bytes, is to fail, or the text would be longer than the room
abbrev pub refuses : MemorySink → ℕ → Bool
refuses sink size = is_planned (planned_puts sink) (sink_puts sink) || nat_lt (sink_room sink) (length (sink_text sink) + size)

-- Nothing was put, counted or planned.
pub record IsNewSink (room : ℕ) (sink : MemorySink) : Type 0 where
  pub text : sink_text sink ≡ []
  pub faults : sink_faults sink ≡ 0
  pub puts : sink_puts sink ≡ 0
  pub size : sink_room sink ≡ room
  pub planned : planned_puts sink ≡ []
