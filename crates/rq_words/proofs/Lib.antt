pub mod Asking
pub mod Naming
pub mod Reading
