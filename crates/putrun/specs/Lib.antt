pub mod Few
pub mod Ones
pub mod Plain
pub mod Word
