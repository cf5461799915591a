pub mod Onto
pub mod Laws
