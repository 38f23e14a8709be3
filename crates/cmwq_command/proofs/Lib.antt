pub mod CarriedLemmas
pub mod TaskLemmas
