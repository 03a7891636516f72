pub mod Noting
pub mod Exponents
pub mod Passes
pub mod Nodes
pub mod Storing
