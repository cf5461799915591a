pub mod Order
pub mod Laws
pub mod Sliding
