pub mod Lists
pub mod Snapshots
pub mod Whole
