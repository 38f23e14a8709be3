pub mod Far
pub mod Idle
pub mod Link
pub mod Links
