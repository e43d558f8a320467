pub mod Settling
pub mod Reach
pub mod Spreading
pub mod Parting
pub mod Ruling
pub mod Restricting
pub mod Loading
pub mod Passing
