pub mod PackLemmas
pub mod StoredLemmas
