mod PlaceLemmas
mod FormLemmas
mod PruneLaw
pub mod SimplifyLemmas
