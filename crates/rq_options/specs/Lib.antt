pub mod Definition
pub mod Options
