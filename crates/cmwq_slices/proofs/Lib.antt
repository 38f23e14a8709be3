pub mod CallerLemmas
pub mod DoingLemmas
pub mod HeadLemmas
pub mod PassLemmas
pub mod StayLemmas
pub mod SteadyLemmas
