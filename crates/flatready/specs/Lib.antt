pub mod Reach
pub mod Ready
pub mod ReadyLaws
