pub mod Written
pub mod Small
pub mod OneFile
pub mod Offsets
pub mod OfTexts
pub mod ReadBack
