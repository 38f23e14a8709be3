pub mod Examples
pub mod LineNumbers
pub mod Notes
pub mod Remarks
pub mod Traps
