pub mod Reading
pub mod Turns
pub mod Lists
pub mod Trees
