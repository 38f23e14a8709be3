pub mod Dumps
pub mod Debugged
