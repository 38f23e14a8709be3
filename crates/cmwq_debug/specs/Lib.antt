pub mod BreakLines
pub mod Breaks
pub mod Checkpoints
pub mod Debugging
pub mod EventWords
pub mod Replaying
