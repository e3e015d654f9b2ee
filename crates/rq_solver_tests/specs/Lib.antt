pub mod Squares
