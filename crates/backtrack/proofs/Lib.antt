pub mod Extending
pub mod Ending
pub mod Ordering
