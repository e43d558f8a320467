pub mod Read
pub mod Answer
pub mod Cards
pub mod Faults
pub mod Readable
pub mod Slots
