pub mod Settle
