pub mod Words
pub mod Judging
pub mod Moves
pub mod Copying
pub mod Tests
pub mod Items
pub mod Canonical
pub mod Refusing
