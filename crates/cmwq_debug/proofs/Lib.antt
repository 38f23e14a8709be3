pub mod CheckpointLemmas
pub mod LowestLemmas
pub mod MovingLemmas
