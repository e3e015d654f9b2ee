pub mod FailedCalls
pub mod MendedParts
pub mod Repairing
