pub mod ConditionComplete
pub mod CountLemmas
pub mod ScriptComplete
pub mod PlaceSpelled
pub mod ScriptSound
pub mod ScheduleLemmas
pub mod DepthLemmas
pub mod FirstLemmas
