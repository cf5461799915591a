pub mod Reps
pub mod Laws
pub mod Turns
pub mod Near
