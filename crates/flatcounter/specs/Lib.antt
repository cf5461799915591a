pub mod Counter
pub mod CounterLaws
pub mod Back
