pub mod Columns
pub mod Lined
pub mod Numbers
pub mod Requested
pub mod Answered
pub mod Paged
pub mod Spaced
pub mod Faulted
