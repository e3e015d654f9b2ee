pub mod FreeColumns
pub mod AllRows
pub mod ReducedRows
pub mod ZeroValues
