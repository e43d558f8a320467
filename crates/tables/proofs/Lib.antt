pub mod Masks
pub mod Numbers
pub mod Same
pub mod Posing
