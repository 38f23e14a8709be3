mod CureLemmas
mod FrontLemmas
mod ListLemmas
mod PlaceLemmas
