pub mod BinaryRows
pub mod Calls
pub mod Defaults
pub mod HdpcPart
pub mod ObjectTransmissionInformation
pub mod Indices
pub mod Records
pub mod RefusedInput
