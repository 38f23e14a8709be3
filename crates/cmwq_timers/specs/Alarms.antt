-- What a contract sees of `Alarms`: a finite map from works to the ticks at which their alarms ring, as a list with one place a work.
use Rattle.std.specs.Prelude.{ℕ, if◌then◌else◌, nat_le, List, length, Option, Some, None, is_some, slice_index_or}
use Rattle.cmwq_types.specs.First.{first_below, by_least}

-- when the work's alarm rings
abbrev pub alarm_at : List (Option ℕ) → ℕ → Option ℕ
alarm_at alarms w = slice_index_or alarms w None

abbrev pub tick_or_0 : Option ℕ → ℕ
tick_or_0 None = 0
tick_or_0 (Some tick) = tick

-- of the works with an alarm the one whose alarm rings first, and where several do the one of least number
abbrev pub first_to_ring : List (Option ℕ) → Option ℕ
first_to_ring alarms = first_below (by_least (λ w. tick_or_0 (alarm_at alarms w))) (λ w. is_some (alarm_at alarms w)) (length alarms)

-- when the work's alarm rings, if there is a work
abbrev pub ring_of : List (Option ℕ) → Option ℕ → Option ℕ
ring_of alarms None = None
ring_of alarms (Some w) = alarm_at alarms w

-- the work, if there is one and its alarm rings by this tick
abbrev pub if_rings_by : List (Option ℕ) → ℕ → Option ℕ → Option ℕ
if_rings_by alarms tick None = None
if_rings_by alarms tick (Some w) = if nat_le (tick_or_0 (alarm_at alarms w)) tick then Some w else None
