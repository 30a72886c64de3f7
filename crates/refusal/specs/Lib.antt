pub mod Grounds
pub mod Refusals
