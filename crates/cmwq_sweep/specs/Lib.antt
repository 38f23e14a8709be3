pub mod Errors
pub mod Examples
pub mod Sweeping
pub mod Swept
pub mod Trials
pub mod Varied
