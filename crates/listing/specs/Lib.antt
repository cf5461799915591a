pub mod Listing
pub mod Printed
pub mod Listed
pub mod Figures
