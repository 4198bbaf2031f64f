pub mod Anchors
pub mod Grouped
pub mod Named
