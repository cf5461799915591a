pub mod Found
pub mod FoundLaws
pub mod Front
