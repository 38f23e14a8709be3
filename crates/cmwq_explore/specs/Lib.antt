pub mod Outcomes
pub mod Plans
pub mod Retracing
pub mod Searching
pub mod Tracing
pub mod Waiting
