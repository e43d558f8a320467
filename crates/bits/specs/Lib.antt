pub mod Sizes
pub mod Columns
pub mod Below
pub mod Word
pub mod Set
pub mod Says
pub mod Member
pub mod Slots
