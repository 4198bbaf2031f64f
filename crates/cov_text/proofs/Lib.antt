pub mod Bools
pub mod Each
pub mod Rising
