pub mod FarLemmas
pub mod StackLemmas
