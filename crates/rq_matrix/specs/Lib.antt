pub mod DenseBinaryMatrix
pub mod DenseRows
pub mod DenseTails
pub mod Orders
pub mod SparseBinaryMatrix
pub mod SparseRows
pub mod SparseTables
