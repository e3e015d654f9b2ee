pub mod LongHeads
pub mod Cells
pub mod Found
pub mod Laws
pub mod Scans
pub mod Wanted
pub mod Search
