pub mod Masks
pub mod Staff
pub mod Reach
pub mod Rows
pub mod Descend
pub mod Decide
pub mod Fill
pub mod Top
