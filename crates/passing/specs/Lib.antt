pub mod Passing
pub mod Proportion
