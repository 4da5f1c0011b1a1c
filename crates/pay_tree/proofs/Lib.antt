pub mod TreeLemmas
pub mod SizeLemmas
pub mod NameLemmas
pub mod OwnedLemmas
