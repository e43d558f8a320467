pub mod Tabled
pub mod Trims
