pub mod Narrow
pub mod Settling
pub mod Attempt
