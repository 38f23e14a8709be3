pub mod Changes
pub mod ChangesTold
pub mod Examples
pub mod Explained
pub mod Laws
pub mod Looking
