pub mod Machine
pub mod View
pub mod Kept
pub mod Fates
pub mod Examples
pub mod Laws
pub mod Script
pub mod Merging
