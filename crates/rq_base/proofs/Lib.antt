pub mod FlippedRows
pub mod BitRowSteps
pub mod HdpcSteps
pub mod OctetEntries
pub mod DefaultParameters
pub mod WalkLaws
pub mod CallLaws
pub mod Accepted
