pub mod Assigning
pub mod Laws
pub mod Holds
