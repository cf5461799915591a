pub mod Census
pub mod Laws
pub mod Going
