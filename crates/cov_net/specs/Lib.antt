pub mod Reads
pub mod Real
