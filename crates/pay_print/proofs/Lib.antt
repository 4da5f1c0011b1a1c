pub mod PrintLemmas
pub mod NameLemmas
pub mod TextLaws
