mod FillLemmas
mod PoolLemmas
mod ReadyLemmas
