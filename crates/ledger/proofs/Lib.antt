pub mod Signed
pub mod People
pub mod Added
pub mod Entered
