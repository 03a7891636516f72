pub mod Forms
pub mod Reading
pub mod Writing
pub mod Cases
pub mod Unique
