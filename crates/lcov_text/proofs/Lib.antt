pub mod Computed
pub mod Greatest
pub mod Lines
pub mod Shares
