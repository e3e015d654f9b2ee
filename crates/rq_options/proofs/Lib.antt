pub mod Local
pub mod Named
pub mod Parsed
