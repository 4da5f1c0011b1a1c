-- What the contract of `pay_passes` cites.
pub mod Terms
pub mod Trades
pub mod Indexing
pub mod Numbering
pub mod Folding
pub mod FoldingPromise
pub mod Changes
pub mod Gathering
pub mod PassLaws
