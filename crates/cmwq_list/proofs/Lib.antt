pub mod LineLemmas
pub mod ListingLemmas
