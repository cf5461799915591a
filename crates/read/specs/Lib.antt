pub mod Reading
pub mod ReadLaws
pub mod Named
