-- What the contract of `pay_runs` cites.
pub mod Weighing
pub mod Counting
pub mod Slots
pub mod SlotCounts
pub mod RunLaws
