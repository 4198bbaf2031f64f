pub mod Examples
pub mod Fits
pub mod Flat
pub mod Grows
pub mod Chains
