-- What the contracts of `pay_dates` cite.
pub mod Days
pub mod Laws
pub mod Parts
pub mod RollLaws
pub mod Rolls
pub mod Steps
