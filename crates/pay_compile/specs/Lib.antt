-- What the contract of `pay_compile` cites.
pub mod Preparing
pub mod Compiling
pub mod Prepared
pub mod CompileLaws
pub mod Refusals
