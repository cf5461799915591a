pub mod Demand
pub mod Suit
pub mod Levels
pub mod Covers
pub mod Accepted
pub mod Figures
