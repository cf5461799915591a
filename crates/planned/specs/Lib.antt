pub mod Told
pub mod Planning
pub mod Figures
