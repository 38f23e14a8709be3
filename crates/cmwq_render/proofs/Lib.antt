pub mod LetterLemmas
pub mod SignLemmas
