pub mod Classes
pub mod Labels
pub mod Rules
