pub mod Kept
pub mod Remaining
pub mod Read
pub mod Arrays
