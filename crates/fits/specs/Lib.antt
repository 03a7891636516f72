pub mod Fits
pub mod Calls
pub mod Meaning
pub mod Starts
pub mod Steps
