pub mod Sweeps
pub mod Cursors
