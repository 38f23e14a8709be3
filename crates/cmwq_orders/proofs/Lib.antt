pub mod LengthLemmas
pub mod OrderLemmas
