mod ActedLemmas
pub mod CallerLemmas
mod DeclaredLemmas
mod InstrPieces
mod NoteLemmas
mod PieceLemmas
