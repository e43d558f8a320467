pub mod KeptLaws
pub mod Gather
pub mod Keeping
pub mod Gathering
pub mod Tables
pub mod Whole
pub mod Laws
pub mod Left
