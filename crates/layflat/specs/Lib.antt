pub mod Rest
pub mod Front
pub mod Numbers
