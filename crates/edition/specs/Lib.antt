pub mod Carriers
pub mod Edition2013
pub mod Editions
pub mod Entered
pub mod Laws
pub mod RowLists
pub mod Tables
pub mod WholeRows
