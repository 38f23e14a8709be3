pub mod Heads
pub mod Pools
pub mod RunningContents
pub mod Ticks
