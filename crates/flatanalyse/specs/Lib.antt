pub mod Cells
pub mod CellsLaws
