pub mod Parts
pub mod Laws
pub mod Nests
pub mod NestedLaws
pub mod Stack
pub mod Read
