mod ChainLemmas
pub mod RingLemmas
mod SearchLemmas
