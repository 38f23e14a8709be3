pub mod SweepLemmas
pub mod TrialLemmas
pub mod VariedLemmas
