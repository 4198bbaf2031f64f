pub mod Spots
pub mod Searched
pub mod Counts
pub mod Sorted
pub mod Read
pub mod Moved
