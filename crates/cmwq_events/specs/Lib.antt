pub mod Followed
pub mod KernelEvents
pub mod KernelTasks
