pub mod Choose
pub mod Laws
pub mod Turns
