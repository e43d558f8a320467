pub mod Parts
pub mod Decision
pub mod Filling
