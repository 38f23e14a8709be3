pub mod FoundLemmas
pub mod ChangeLemmas
