pub mod Order
pub mod Next
pub mod Validity
pub mod Trying
