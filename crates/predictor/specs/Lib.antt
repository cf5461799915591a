pub mod Update
pub mod UpdateLaws
