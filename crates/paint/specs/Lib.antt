pub mod Paint
pub mod Laws
