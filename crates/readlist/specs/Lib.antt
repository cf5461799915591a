pub mod After
pub mod AfterLaws
