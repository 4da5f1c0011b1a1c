-- What a script is refused for before it is a trade, in the order in which it is asked.
use Rattle.std.specs.Prelude.{◌≡◌, List, ◌++◌, map, Option, Some, None}
use Rattle.std.specs.Option.{option_and_then}
use Rattle.pay_meaning.specs.Language.{Script}
use Rattle.pay_roll.specs.Rolling.{first_of, roll_refusals}
use Rattle.pay_roll.specs.declared.refusal.RollRefusal.{RollRefusal}
use Rattle.pay_roll.specs.declared.refusal.RollRefusal.TheVariants as rolling
use Rattle.pay_passes.specs.Indexing.{index_refusals}
use Rattle.pay_passes.specs.declared.trade.IndexRefusal.{IndexRefusal}
use Rattle.pay_passes.specs.declared.trade.IndexRefusal.TheVariants as indexing
use Rattle.pay_compile.specs.declared.refusal.CompileRefusal.{CompileRefusal}
use Rattle.pay_compile.specs.declared.refusal.CompileRefusal.TheVariants.{BadSchedule, SameDate, TooMany, NoMemory}

-- the refusal of a script that has no events; want of memory is none
abbrev pub refusal_of_roll : RollRefusal → Option CompileRefusal
refusal_of_roll (rolling.BadSchedule item) = Some (BadSchedule item)
refusal_of_roll (rolling.SameDate date) = Some (SameDate date)
refusal_of_roll (rolling.TooMany what limit) = Some (TooMany what limit)
refusal_of_roll rolling.NoMemory = None

-- the refusal of a script with too many names; want of memory is none
abbrev pub refusal_of_index : IndexRefusal → Option CompileRefusal
refusal_of_index (indexing.TooMany what limit) = Some (TooMany what limit)
refusal_of_index indexing.NoMemory = None

-- what a script is refused for: why it has no events, and then its variables and its legs
abbrev pub compile_refusals : Script → List (Option CompileRefusal)
compile_refusals script =
    map (option_and_then refusal_of_roll) (roll_refusals script) ++ map (option_and_then refusal_of_index) (index_refusals script)

-- the first of these, if there is one
unfoldable pub compile_refusal : Script → Option CompileRefusal
compile_refusal script = first_of (compile_refusals script)

-- there is a refusal, and it is this one; memory may be wanted for any script
abbrev pub IsRefusalOf : Script → CompileRefusal → Type 0
IsRefusalOf script (BadSchedule item) = compile_refusal script ≡ Some (BadSchedule item)
IsRefusalOf script (SameDate date) = compile_refusal script ≡ Some (SameDate date)
IsRefusalOf script (TooMany what limit) = compile_refusal script ≡ Some (TooMany what limit)
IsRefusalOf script NoMemory = Unit {0}
