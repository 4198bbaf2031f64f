pub mod Live
pub mod Taping
pub mod Serving
