pub mod Away
pub mod Count
pub mod Spare
pub mod Known
pub mod Left
pub mod Varied
pub mod Group
pub mod Onward
