mod DebugLemmas
mod DrawLemmas
mod ExploreLemmas
mod ExploringLemmas
mod RequestLemmas
mod TableLemmas
mod WalkingLemmas
mod WhyLemmas
pub mod LimitLemmas
pub mod ReportLemmas
