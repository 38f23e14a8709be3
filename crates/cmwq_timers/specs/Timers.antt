-- What a contract sees of `Timers`: a finite map from works to timers, as a list with one place a work.
use Rattle.std.specs.Prelude.{ℕ, Bool, if◌then◌else◌, nat_le, List, length, Option, Some, None, is_some, slice_index_or, slice_set}
use Rattle.cmwq_types.specs.First.{first_below, by_least_two}
use Rattle.cmwq_timers.specs.declared.timer.Timer.{Timer}

-- the work's timer
abbrev pub timer_at : List (Option Timer) → ℕ → Option Timer
timer_at timers w = slice_index_or timers w None

-- when the work's timer is due, and its stamp
abbrev pub timer_due : Option Timer → ℕ
timer_due None = 0
timer_due (Some timer) = timer.due

abbrev pub timer_stamp : Option Timer → ℕ
timer_stamp None = 0
timer_stamp (Some timer) = timer.stamp

-- by due, then by stamp
abbrev pub fires_before : List (Option Timer) → ℕ → ℕ → Bool
fires_before timers = by_least_two (λ w. timer_due (timer_at timers w)) (λ w. timer_stamp (timer_at timers w))

-- of the works with a timer the one whose timer fires first
abbrev pub first_to_fire : List (Option Timer) → Option ℕ
first_to_fire timers = first_below (fires_before timers) (λ w. is_some (timer_at timers w)) (length timers)

abbrev pub timer_found : List (Option Timer) → Option ℕ → Option Timer
timer_found timers None = None
timer_found timers (Some w) = timer_at timers w

-- the timer that fires first
abbrev pub least_timer : List (Option Timer) → Option Timer
least_timer timers = timer_found timers (first_to_fire timers)

-- a timer, if it is due by this tick
abbrev pub due_by : ℕ → Option Timer → Option Timer
due_by tick None = None
due_by tick (Some timer) = if nat_le timer.due tick then Some timer else None

-- the timers once this one, if there is one, is taken away
abbrev pub without_timer : List (Option Timer) → Option Timer → List (Option Timer)
without_timer timers None = timers
without_timer timers (Some timer) = slice_set timers timer.work.0 None
