pub mod AnswerLemmas
pub mod ExplainLemmas
pub mod LookingLemmas
pub mod PositionLemmas
pub mod SettledLemmas
pub mod TellingLemmas
pub mod TimeLemmas
