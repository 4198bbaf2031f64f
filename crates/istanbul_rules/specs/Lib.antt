pub mod Ignored
pub mod Walk
pub mod Parts
pub mod Remapped
pub mod Painting
pub mod File
pub mod Examples
