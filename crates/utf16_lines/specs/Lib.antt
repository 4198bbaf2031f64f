pub mod Table
pub mod Lines
pub mod Scan
pub mod Gives
pub mod Cutting
pub mod Laws
pub mod Examples
