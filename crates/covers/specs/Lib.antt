pub mod Reach
pub mod Covers
pub mod Least
