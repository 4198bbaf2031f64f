pub mod Paths
pub mod Origins
pub mod Columns
pub mod Groups
