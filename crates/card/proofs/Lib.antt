pub mod ByKind
pub mod Levels
pub mod Limits
pub mod Zeros
pub mod Numbers
