pub mod Orders
pub mod Prompt
pub mod Talk
pub mod Verbs
