pub mod Simplified
pub mod SimpleLaws
pub mod Pruning
pub mod PruningLaws
pub mod Examples
