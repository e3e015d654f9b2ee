pub mod ColumnIndexLaws
pub mod DenseTailLaws
pub mod FoundOnes
pub mod OrderLaws
pub mod Pairs
pub mod SparseMatrixLaws
pub mod SparseRowLaws
pub mod StoredRows
