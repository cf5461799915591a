pub mod Sse
pub mod Laws
