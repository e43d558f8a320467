pub mod State
pub mod Bound
pub mod Masks
pub mod Sign
pub mod Judged
pub mod Open
pub mod Cases
