pub mod Binding
pub mod Holding
pub mod Asking
pub mod Opening
pub mod Deciding
pub mod Agreeing
pub mod Cases
pub mod OpenCases
