pub mod Front
pub mod FrontLaws
