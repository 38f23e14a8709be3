pub mod Log
pub mod Views
pub mod Rule
pub mod Steps
pub mod Promises
pub mod Seats
pub mod Tokens
