pub mod Calls
pub mod CallLaws
