pub mod Summed
pub mod Attached
pub mod Lives
