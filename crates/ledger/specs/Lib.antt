pub mod Entry
pub mod Sums
pub mod Lines
pub mod Printed
