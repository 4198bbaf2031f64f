pub mod Attaching
pub mod Adding
pub mod Commands
pub mod Top
