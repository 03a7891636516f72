pub mod Summing
pub mod Marks
pub mod Cases
pub mod Xor
pub mod Crc
pub mod Words
pub mod Changed
