pub mod Escapes
pub mod Cells
