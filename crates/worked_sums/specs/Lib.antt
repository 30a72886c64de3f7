pub mod Runs
pub mod Sums
