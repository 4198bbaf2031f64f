pub mod Way
pub mod Ends
pub mod Parts
pub mod Visited
