pub mod Read
pub mod Loop
