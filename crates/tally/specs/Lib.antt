pub mod Tally
pub mod Laws
