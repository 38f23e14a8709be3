pub mod Answers
pub mod Asking
pub mod Errors
pub mod Exploring
pub mod Found
pub mod Names
