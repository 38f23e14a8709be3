mod AloneLemmas
mod CountLemmas
mod ExecutionLemmas
mod FileCountLemmas
mod FileDoerLemmas
mod FileEventLemmas
mod FileRunLemmas
mod MarkLemmas
mod OverlapLemmas
pub mod PhaseBurnLemmas
pub mod PhaseLengthLemmas
pub mod PhaseOverlapLemmas
mod QueuedLemmas
mod StampLemmas
mod StartLemmas
mod TaskLemmas
mod TimeLemmas
mod TurnLemmas
mod WeighLemmas
