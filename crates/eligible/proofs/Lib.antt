pub mod Light
pub mod Names
pub mod Planned
pub mod Open
pub mod Tests
