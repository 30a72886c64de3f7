pub mod InputLines
pub mod Tallies
