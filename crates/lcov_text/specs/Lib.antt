pub mod Counts
pub mod Counting
pub mod Lcov
pub mod Examples
