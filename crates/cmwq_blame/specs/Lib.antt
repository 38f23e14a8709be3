pub mod Blame
pub mod Bounds
pub mod Table
