pub mod StackLemmas
pub mod SignLemmas
pub mod NotLemmas
