pub mod Failed
pub mod Folder
pub mod Keyed
pub mod Placed
pub mod Spots
pub mod Told
