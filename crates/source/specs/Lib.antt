pub mod Source
pub mod Laws
pub mod Joined
