pub mod Serves
pub mod Goes
