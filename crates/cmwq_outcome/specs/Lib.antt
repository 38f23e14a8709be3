pub mod Checking
pub mod Fault
pub mod FaultsTold
pub mod Refused
pub mod Starter
pub mod Starting
