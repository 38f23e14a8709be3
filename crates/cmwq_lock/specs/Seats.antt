-- A seat at a lock's table.
use Rattle.std.specs.Prelude.{◌≡◌}
use Rattle.atomic_table.specs.declared.shared.Seat.{Seat}
use Rattle.atomic_table.specs.declared.shared.Shared.{Shared}

-- the seat is at this table, which has two words and one slot
pub record IsSeatOf {S V K P : Type 0} (words : Shared S V K P) (seat : Seat S V) : Type 0 where
  pub same_table : seat.table_id ≡ words.table_id
  pub two_words : words.table_id.words ≡ 2
  pub one_slot : words.table_id.slots ≡ 1
