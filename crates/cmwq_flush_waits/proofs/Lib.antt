pub mod ReachLemmas
pub mod TextLemmas
