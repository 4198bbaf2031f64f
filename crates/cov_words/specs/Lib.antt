pub mod Asked
pub mod Child
pub mod Groups
pub mod Live
pub mod Simple
