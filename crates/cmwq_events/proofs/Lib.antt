pub mod CallerLemmas
mod FollowLemmas
mod NameLemmas
mod RunningLemmas
