pub mod AlarmRanks
pub mod Alarms
pub mod Timers
pub mod Tree
