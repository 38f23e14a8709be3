pub mod AlikeLemmas
pub mod EndLemmas
pub mod HeadLemmas
pub mod PaceLemmas
pub mod PoolLemmas
pub mod ShownLemmas
pub mod StepLemmas
pub mod TickLemmas
