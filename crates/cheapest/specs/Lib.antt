pub mod Chart
pub mod SearchLaws
