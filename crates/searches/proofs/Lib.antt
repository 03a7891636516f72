pub mod Halving
pub mod Finding
pub mod Spots
pub mod Ends
pub mod Windows
pub mod Entries
pub mod Sharing
pub mod Walking
