pub mod Tallying
pub mod Bounding
pub mod Coarser
pub mod Following
pub mod Carrying
pub mod Relaxation
