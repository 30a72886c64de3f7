pub mod Reached
pub mod Answers
pub mod First
pub mod Runs
pub mod Buffers
pub mod Laws
