-- What the contract of `pay_code` cites.
pub mod Flat
pub mod Execution
pub mod Filled
pub mod CodeLaws
pub mod Bounds
pub mod BoundLaws
pub mod Programs
pub mod States
