pub mod Days
pub mod Laws
pub mod Terms
