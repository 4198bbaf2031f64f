pub mod Served
pub mod Answering
pub mod Seats
pub mod Going
pub mod Serving
