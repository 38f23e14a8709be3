pub mod CallerLemmas
mod SendingLemmas
