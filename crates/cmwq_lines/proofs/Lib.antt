mod BlockLemmas
mod NumberLemmas
mod PutLemmas
pub mod RepeatedLemmas
