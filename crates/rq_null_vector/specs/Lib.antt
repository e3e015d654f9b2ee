pub mod Homogeneous
pub mod Reduced
pub mod RowWrites
