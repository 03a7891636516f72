pub mod Asking
pub mod Sizes
pub mod Emptying
pub mod Operating
