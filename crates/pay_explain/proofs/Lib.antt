pub mod KnownLemmas
pub mod ExplainLemmas
pub mod NameLaws
pub mod TermLaws
