pub mod At
pub mod Kept
pub mod Search
pub mod Gives
pub mod Maps
pub mod Answers
pub mod Sections
pub mod Entries
