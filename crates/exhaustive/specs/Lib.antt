pub mod Order
pub mod Trial
