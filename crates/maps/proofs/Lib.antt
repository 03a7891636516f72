pub mod Looking
pub mod Operating
pub mod Sites
