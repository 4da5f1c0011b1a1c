-- What the contracts of `pay_tables` cite.
pub mod Labels
pub mod Tables
pub mod Records
pub mod Fields
pub mod ScenarioFile
pub mod FixingsFile
pub mod Spelling
pub mod Faults
pub mod Views
pub mod Laws
pub mod Reader
pub mod CsvReader
