pub mod As
pub mod Stages
