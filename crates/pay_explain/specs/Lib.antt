pub mod Explaining
pub mod ExplainLaws
pub mod Known
