pub mod Sessions
pub mod Seating
