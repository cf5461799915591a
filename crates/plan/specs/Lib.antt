pub mod Planned
pub mod Answer
pub mod AnswerLaws
