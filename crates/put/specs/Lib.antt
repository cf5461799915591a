pub mod Straight
pub mod Words
