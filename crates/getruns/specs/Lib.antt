pub mod As
pub mod One
