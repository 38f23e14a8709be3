pub mod FlushText
pub mod Holders
pub mod Laws
pub mod Waits
