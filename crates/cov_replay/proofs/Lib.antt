pub mod Taping
pub mod Behind
pub mod Lawful
pub mod Played
