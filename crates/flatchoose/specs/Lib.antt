pub mod Choose
pub mod ChooseLaws
