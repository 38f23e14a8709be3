pub mod ToldLemmas
pub mod TalkLemmas
