pub mod Decimal
pub mod DecimalLaws
