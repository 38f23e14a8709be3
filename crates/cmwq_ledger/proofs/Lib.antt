pub mod ActiveLemmas
pub mod BoundLemmas
pub mod RecordLemmas
pub mod RoomLemmas
pub mod StillLemmas
pub mod TickLemmas
