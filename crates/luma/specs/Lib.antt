pub mod Luma
pub mod Laws
