pub mod Blocks
pub mod Errors
pub mod Sending
pub mod Stream
