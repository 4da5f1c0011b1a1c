-- What a script is refused for as a compiler's refusal, want of memory among it.
use Rattle.pay_roll.specs.declared.refusal.RollRefusal.{RollRefusal}
use Rattle.pay_roll.specs.declared.refusal.RollRefusal.TheVariants as rolling
use Rattle.pay_passes.specs.declared.trade.IndexRefusal.{IndexRefusal}
use Rattle.pay_passes.specs.declared.trade.IndexRefusal.TheVariants as indexing
use Rattle.pay_compile.specs.declared.refusal.CompileRefusal.{CompileRefusal}
use Rattle.pay_compile.specs.declared.refusal.CompileRefusal.TheVariants.{BadSchedule, SameDate, TooMany, NoMemory}

-- the refusal of a script that has no events
abbrev pub refused_roll : RollRefusal → CompileRefusal
refused_roll (rolling.BadSchedule item) = BadSchedule item
refused_roll (rolling.SameDate date) = SameDate date
refused_roll (rolling.TooMany what limit) = TooMany what limit
refused_roll rolling.NoMemory = NoMemory

-- the refusal of a script with too many names
abbrev pub refused_index : IndexRefusal → CompileRefusal
refused_index (indexing.TooMany what limit) = TooMany what limit
refused_index indexing.NoMemory = NoMemory
