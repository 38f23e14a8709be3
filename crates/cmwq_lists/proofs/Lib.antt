pub mod LinkLemmas
pub mod CellLemmas
pub mod ChangeLemmas
pub mod FindingLemmas
pub mod SeenLemmas
pub mod CallerLemmas
