-- What the contract of `pay_report` cites.
pub mod Detail
pub mod Lines
