-- What the contract of `pay_roll` cites.
pub mod Rolling
pub mod Plans
pub mod Laws
