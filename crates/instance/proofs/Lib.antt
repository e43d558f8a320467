pub mod Laws
pub mod Figured
pub mod Classes
pub mod Marked
