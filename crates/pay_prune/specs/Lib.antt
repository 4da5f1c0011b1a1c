pub mod Pruned
pub mod Simplifying
pub mod PruneLaws
pub mod PruningPromise
