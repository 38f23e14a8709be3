pub mod CoverLemmas
pub mod FoundLemmas
pub mod KeptLemmas
pub mod LayoutLemmas
pub mod RescueLemmas
pub mod StaffLemmas
pub mod TickLemmas
