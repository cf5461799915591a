pub mod Onto
pub mod OntoLaws
