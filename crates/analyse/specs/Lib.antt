pub mod Analyse
pub mod Laws
