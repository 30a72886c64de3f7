pub mod Charges
pub mod Fixings
pub mod Metering
pub mod Months
