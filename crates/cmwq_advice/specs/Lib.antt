pub mod Advice
pub mod ExplainOption
pub mod Lines
