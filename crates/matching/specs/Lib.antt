pub mod Assignment
pub mod State
