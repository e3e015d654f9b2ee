pub mod Doing
pub mod Failing
pub mod Followed
pub mod Guarding
pub mod Made
pub mod RoundSteps
pub mod Sharded
