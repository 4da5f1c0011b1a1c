pub mod ItemLemmas
pub mod Rolled
pub mod Checks
pub mod TableChecks
