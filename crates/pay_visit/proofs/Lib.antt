mod RewritingLemmas
mod StepLemmas
pub mod KeepingLemmas
mod ShowingLemmas
