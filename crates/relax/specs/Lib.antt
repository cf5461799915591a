pub mod Jumps
pub mod JumpLaws
pub mod Table
