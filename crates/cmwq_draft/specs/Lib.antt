pub mod Declarations
pub mod Operations
pub mod Parts
