pub mod Counting
pub mod Putting
