-- Who burns, once the head of each pool is known.
use Rattle.std.specs.Prelude.{ℕ, ◌+◌, Bool, false, ◌&&◌, ◌||◌, List, Option, Some, None, if◌then◌else◌, is_none, nat_le, slice_index_or}
use Rattle.cmwq_table.specs.Counts.{is_runnable, is_some_work}
use Rattle.cmwq_table.specs.State.{is_high}
use Rattle.cmwq_table.specs.declared.state.Running.{Running}

-- `burns`, with the heads in a list and `unbound` the least unbound pool
abbrev pub burns_beside : List (Option ℕ) → ℕ → ℕ → Option Running → Bool
burns_beside heads unbound w None = false
burns_beside heads unbound w (Some r) =
    if nat_le unbound r.pool then is_runnable r.mode
    else is_some_work (slice_index_or heads r.pool None) w && (is_high r.pool || is_none (slice_index_or heads (r.pool + 1) None))
