pub mod FaultMeaning
pub mod Image
pub mod ImageFault
pub mod Limits
pub mod Versions
pub mod Worked
