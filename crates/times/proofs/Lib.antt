pub mod Sign
pub mod Laws
