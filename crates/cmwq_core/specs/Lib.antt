pub mod CoreLayout
pub mod Moving
pub mod Rescuing
pub mod Staff
