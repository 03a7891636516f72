pub mod Tables
pub mod Runs
pub mod Segments
pub mod Growing
pub mod Standing
pub mod Storing
