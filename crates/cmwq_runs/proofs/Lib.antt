pub mod InstructionsLemmas
pub mod LineLemmas
