pub mod Depths
pub mod Examples
pub mod Pools
pub mod Repeating
