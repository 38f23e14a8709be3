pub mod BurningHeads
pub mod Heads
pub mod RecordLayout
pub mod Rest
