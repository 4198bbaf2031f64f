pub mod Scanned
pub mod Tables
pub mod Places
pub mod Made
pub mod Found
pub mod ComingBack
pub mod Cut
pub mod OneWay
