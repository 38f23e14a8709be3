-- What a running work's phase comes to at a time, in the table's words.
use Rattle.std.specs.Prelude.{ℕ, ◌+◌, ◌-◌, ◌<◌, ◌≤◌, ◌^◌, List, map, Option, option_map}
use Rattle.cmwq_types.specs.declared.reply.Mode.{Mode}
use Rattle.cmwq_types.specs.declared.reply.Mode.TheVariants as mode
use Rattle.cmwq_table.specs.declared.state.Running.{Running}
use Rattle.cmwq_phased.specs.declared.run.Phase.{Phase}
use Rattle.cmwq_phased.specs.declared.run.Phase.TheVariants.{Ready, Held, Burning, Asleep, Slept}
use Rattle.cmwq_phased.specs.declared.run.Run.{Run}

-- the ticks left to burn
abbrev pub left_in : ℕ → Phase → ℕ
left_in time Ready = 0
left_in time (Held left) = left
left_in time (Burning end) = end - time
left_in time (Asleep until) = 0
left_in time (Slept until) = 0

abbrev pub mode_in : Phase → Mode
mode_in Ready = mode.Runnable
mode_in (Held left) = mode.Runnable
mode_in (Burning end) = mode.Runnable
mode_in (Asleep until) = mode.Asleep until
mode_in (Slept until) = mode.Asleep until

abbrev pub shown : ℕ → Run → Running
shown time r =
    record { born = r.born; pool = r.pool; worker = r.worker; pc = r.pc; left = left_in time r.phase; mode = mode_in r.phase; stamp = r.stamp }

-- the table's map of the running works
abbrev pub shown_all : ℕ → List (Option Run) → List (Option Running)
shown_all time runs = map (option_map (shown time)) runs

-- no more ticks are left than a number of 32 bits has
abbrev pub IsNear : ℕ → Phase → Type 0
IsNear time Ready = Unit {0}
IsNear time (Held left) = Unit {0}
IsNear time (Burning end) = end < time + 2 ^ 32
IsNear time (Asleep until) = Unit {0}
IsNear time (Slept until) = Unit {0}

-- what ends later hasn't ended, and what has ended is called so
abbrev pub IsTimely : ℕ → Phase → Type 0
IsTimely time Ready = Unit {0}
IsTimely time (Held left) = 0 < left
IsTimely time (Burning end) = (time < end) × (end < time + 2 ^ 32)
IsTimely time (Asleep until) = time < until
IsTimely time (Slept until) = until ≤ time
