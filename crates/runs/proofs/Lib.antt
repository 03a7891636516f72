pub mod Turns
pub mod Running
pub mod Several
pub mod Storing
