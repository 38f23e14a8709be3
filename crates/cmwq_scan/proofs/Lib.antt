mod CuttingLemmas
mod EqualityLemmas
mod FirstWords
mod LaneLemmas
pub mod LastFields
pub mod LineSteps
mod NameLemmas
mod NumberLemmas
mod TokenLemmas
