pub mod Answers
pub mod Lanes
pub mod LastFields
pub mod Numbers
pub mod Refusals
pub mod Words
