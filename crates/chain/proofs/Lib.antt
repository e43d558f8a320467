pub mod Step
pub mod Going
pub mod Chained
pub mod Refused
pub mod Alike
