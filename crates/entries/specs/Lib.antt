pub mod Entries
pub mod Build
pub mod Sets
pub mod Maps
pub mod Bulletins
pub mod Questions
