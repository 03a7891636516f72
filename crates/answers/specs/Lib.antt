pub mod Answers
pub mod Says
pub mod Steps
