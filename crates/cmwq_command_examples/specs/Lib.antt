pub mod Drivers
pub mod Examples
pub mod Statuses
pub mod Told
