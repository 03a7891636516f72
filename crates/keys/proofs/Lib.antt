pub mod Shift
pub mod Differences
pub mod Machine
