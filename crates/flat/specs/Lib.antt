pub mod Flat
pub mod FlatLaws
