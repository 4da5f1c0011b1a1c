-- What the contract of `pay_visit` cites.
pub mod Rewriting
pub mod Keeping
pub mod Showing
