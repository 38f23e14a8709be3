pub mod AlarmLemmas
pub mod FirstAlarmLemmas
pub mod FrontLemmas
pub mod LeastLemmas
pub mod TreeLemmas
