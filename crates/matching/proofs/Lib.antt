pub mod Hall
pub mod Laws
pub mod Displace
pub mod Turn
pub mod Groups
