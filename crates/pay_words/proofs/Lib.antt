pub mod OptionLemmas
