pub mod Above
pub mod Answering
pub mod Bounding
pub mod Counted
pub mod Placing
pub mod SharingLaws
