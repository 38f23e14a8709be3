pub mod Indexes
pub mod QueuedContents
