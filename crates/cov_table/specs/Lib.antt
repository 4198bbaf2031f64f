pub mod Shares
pub mod Table
pub mod Adding
pub mod Examples
