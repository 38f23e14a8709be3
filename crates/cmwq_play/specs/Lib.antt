pub mod Commands
pub mod Framing
pub mod Images
pub mod PlayTexts
pub mod Repeating
pub mod Runs
pub mod Session
pub mod Telling
