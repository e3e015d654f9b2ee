pub mod Performed
pub mod ZeroMultiples
