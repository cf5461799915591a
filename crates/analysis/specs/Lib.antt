pub mod Analyze
pub mod Laws
pub mod Holds
