pub mod YearSplit
