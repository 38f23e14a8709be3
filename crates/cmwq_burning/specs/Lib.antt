pub mod Burning
pub mod Examples
