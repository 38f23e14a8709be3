pub mod Rings
pub mod Searching
