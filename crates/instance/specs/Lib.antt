pub mod Instance
pub mod Figures
pub mod Marked
