pub mod Domain
pub mod DomainLaws
pub mod Whole
pub mod WholeLaws
pub mod ConfigLaws
pub mod Blank
