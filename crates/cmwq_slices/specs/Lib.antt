pub mod Executions
pub mod Heads
pub mod Slices
