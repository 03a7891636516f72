pub mod Numbers
pub mod Unique
pub mod UniqueKeys
pub mod Turns
