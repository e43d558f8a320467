pub mod Layout
pub mod Fields
pub mod Refusals
pub mod Kinds
