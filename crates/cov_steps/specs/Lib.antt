pub mod Runs
pub mod Sum
pub mod Walking
pub mod Laws
