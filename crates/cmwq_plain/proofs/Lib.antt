pub mod RestLemmas
pub mod TickLemmas
pub mod TimerLemmas
