pub mod Records
pub mod Reads
pub mod Steps
