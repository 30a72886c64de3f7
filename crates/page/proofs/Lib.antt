pub mod Reaching
pub mod Refusing
pub mod Fitting
