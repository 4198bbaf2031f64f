pub mod Computed
pub mod Characters
pub mod Running
pub mod Sums
