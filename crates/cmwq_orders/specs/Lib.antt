pub mod Laws
pub mod Orders
pub mod Questions
pub mod Sizes
