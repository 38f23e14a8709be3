pub mod TallyLemmas
