pub mod Whole
pub mod Two
pub mod Rooms
pub mod Walking
pub mod Searching
pub mod Overlap
