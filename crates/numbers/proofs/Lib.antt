pub mod Patch
pub mod Numbers
