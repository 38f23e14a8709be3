pub mod Counting
pub mod Examples
pub mod Quiet
pub mod Settled
pub mod Settling
