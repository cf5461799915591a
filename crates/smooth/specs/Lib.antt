pub mod Smooth
pub mod Laws
pub mod Seen
