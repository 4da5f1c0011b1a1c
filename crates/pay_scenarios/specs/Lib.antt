pub mod RunTexts
pub mod Columns
pub mod Puts
pub mod RowLines
pub mod Aligned
