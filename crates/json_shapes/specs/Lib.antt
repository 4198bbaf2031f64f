pub mod Shapes
pub mod Members
pub mod Parsing
