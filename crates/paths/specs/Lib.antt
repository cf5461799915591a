pub mod Cells
pub mod Plan
pub mod CellLaws
pub mod Stretch
pub mod Same
pub mod Edges
pub mod TableLaws
pub mod Sunk
