pub mod Edge
pub mod Failures
pub mod MemoryDepot
pub mod MemorySink
pub mod Outside
pub mod WholeFaults
