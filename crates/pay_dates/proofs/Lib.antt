pub mod DayLemmas
pub mod CountLemmas
pub mod MoveLemmas
pub mod PartsLemmas
pub mod RollLemmas
pub mod RuleLemmas
pub mod ScheduleLemmas
pub mod StepLemmas
