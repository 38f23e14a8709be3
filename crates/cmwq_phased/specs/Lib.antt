pub mod Counted
pub mod Indexed
pub mod Indexes
pub mod PhasedContents
pub mod Phases
pub mod Runs
