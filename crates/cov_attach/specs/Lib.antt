pub mod Causes
pub mod Runs
pub mod Sessions
pub mod Gathered
pub mod Steps
pub mod Places
