-- What the contract of `pay_machine` cites.
pub mod Outcomes
pub mod NamedRuns
pub mod Rows
pub mod Runs
pub mod RunLaws
pub mod Frames
pub mod Paid
pub mod Stacks
pub mod Work
