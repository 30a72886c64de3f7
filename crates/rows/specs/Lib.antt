pub mod Fields
pub mod Faults
pub mod Lines
pub mod Requests
pub mod Told
pub mod Pages
pub mod Judged
pub mod Wrong
