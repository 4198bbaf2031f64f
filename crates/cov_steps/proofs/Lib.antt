pub mod Ends
pub mod Maximal
pub mod Open
pub mod Ordered
pub mod Sorted
pub mod Rooted
pub mod Walks
pub mod Adding
