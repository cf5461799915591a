pub mod Quant
pub mod QuantLaws
pub mod Signed
