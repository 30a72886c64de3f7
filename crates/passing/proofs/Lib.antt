pub mod Made
pub mod Parts
pub mod Places
pub mod ThreeEuros
pub mod Passes
