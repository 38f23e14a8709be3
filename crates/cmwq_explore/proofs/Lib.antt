pub mod ListLemmas
pub mod NeverLemmas
pub mod PlanLemmas
pub mod ResultLemmas
pub mod SearchLemmas
pub mod SeenLemmas
pub mod TraceLemmas
pub mod WaitingLemmas
