pub mod Found
pub mod Guards
pub mod Pairs
