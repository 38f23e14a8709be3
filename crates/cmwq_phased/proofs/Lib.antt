pub mod AlarmLemmas
pub mod ChangeLemmas
pub mod CountLemmas
pub mod LineLemmas
