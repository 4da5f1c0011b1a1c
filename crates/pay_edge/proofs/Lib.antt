pub mod Entries
pub mod Faults
pub mod Streams
pub mod Told
pub mod Wholes
