pub mod Flat
pub mod Rest
pub mod First
