pub mod Block
pub mod Laws
pub mod Kept
