pub mod Written
pub mod Trip
pub mod Lent
pub mod Made
pub mod Step
pub mod Figures
pub mod Accepted
