pub mod Examples
pub mod Keeps
pub mod Runs
pub mod Replies
pub mod Scripted
pub mod Cut
pub mod Seen
pub mod Tapes
