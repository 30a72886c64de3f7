pub mod Dates
pub mod SplitDays
