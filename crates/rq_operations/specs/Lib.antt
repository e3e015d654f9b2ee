pub mod RecordedOperations
pub mod RecordedSteps
