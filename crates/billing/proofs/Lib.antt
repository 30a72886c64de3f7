pub mod FixingLaws
pub mod MeterLaws
pub mod MonthLaws
