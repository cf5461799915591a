pub mod Smoothing
pub mod Laws
pub mod Holds
