pub mod BlamedLemmas
pub mod BoundLemmas
pub mod CountingLemmas
pub mod PassingLemmas
