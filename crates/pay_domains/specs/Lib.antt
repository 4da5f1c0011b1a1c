pub mod Pieces
pub mod Merging
pub mod Operators
pub mod Pairs
pub mod Queries
pub mod DomainLaws
