pub mod Words
pub mod Language
pub mod Parts
pub mod Meaning
pub mod Events
pub mod Laws
