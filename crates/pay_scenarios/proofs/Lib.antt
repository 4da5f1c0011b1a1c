pub mod Pieces
pub mod FixingLimits
pub mod RunLines
pub mod ColumnLemmas
