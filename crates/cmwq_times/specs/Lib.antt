pub mod Clerking
pub mod Examples
pub mod Sums
pub mod TimesOfRun
pub mod TimesText
