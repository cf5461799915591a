pub mod Assign
pub mod Laws
pub mod Memory
pub mod Keys
