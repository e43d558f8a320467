pub mod Domains
pub mod Fixing
pub mod Loading
pub mod Narrowing
pub mod Parting
pub mod Spreading
