pub mod Bound
pub mod Relaxed
