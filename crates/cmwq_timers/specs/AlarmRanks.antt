-- How alarms are ranked, and what their ticks and ranks tell. No public clause cites this module.
use Rattle.std.specs.Prelude.{◌≡◌, ◌≢◌, ℕ, ◌+◌, ◌-◌, ◌*◌, ◌/◌, ◌%◌, ◌^◌, ◌<◌, ◌≤◌, ◌==◌, List, length, map, max, min, Option, Some, None, if◌then◌else◌, slice_index_or, slice_set}
use Rattle.std.specs.List.{range_with_len}
use Rattle.cmwq_timers.specs.Alarms.{alarm_at}
use Rattle.cmwq_timers.specs.Tree.{IsTree, rank_at}

-- the first of the ticks that are one tick in a rank
abbrev pub first_late_tick : ℕ
first_late_tick = 2 ^ 48 - 1

-- the rank of no alarm, which is greater than all others
abbrev pub no_alarm : ℕ
no_alarm = 2 ^ 64 - 1

-- by tick, then by work
abbrev pub alarm_rank : ℕ → ℕ → ℕ
alarm_rank w tick = min tick first_late_tick * 2 ^ 16 + w

-- the alarm that a work has, by the tick that is kept for it and its leaf's rank: of a work that has none the tick tells nothing
abbrev pub alarm_kept : ℕ → ℕ → Option ℕ
alarm_kept tick rank = if rank == no_alarm then None else Some tick

abbrev pub tick_at : List ℕ → ℕ → ℕ
tick_at ticks w = slice_index_or ticks w 0

-- the rank of a work's leaf
abbrev pub leaf_rank : List ℕ → ℕ → ℕ
leaf_rank ranks w = rank_at ranks (length ranks / 2 + w)

-- the alarm of each work
abbrev pub alarms_in : List ℕ → List ℕ → List (Option ℕ)
alarms_in ticks ranks = map (λ w. alarm_kept (tick_at ticks w) (leaf_rank ranks w)) (range_with_len 0 (length ticks))

-- the rank is that of none, or of the alarm of this work at the tick that is kept for it
abbrev pub IsOwnRank : List ℕ → ℕ → ℕ → Type 0
IsOwnRank ticks w rank = rank ≢ no_alarm → (w < length ticks) × (rank ≡ alarm_rank w (tick_at ticks w))

-- the leaf of each work has its own rank, and above the leaves is the tree, which has a root where there are no works too
pub record IsAlarmTree (ticks ranks : List ℕ) : Type 0 where
  pub few : length ticks < 2 ^ 16
  pub long : length ranks ≡ 2 * max (length ticks) 1
  pub own : (w : ℕ) → w < length ranks / 2 → IsOwnRank ticks w (leaf_rank ranks w)
  pub tree : IsTree ranks

-- the ranks where the leaf of the alarm in front has its rank too: in that of no alarm is no work that has a leaf
abbrev pub with_front : ℕ → List ℕ → List ℕ
with_front front ranks = slice_set ranks (length ranks / 2 + front % 2 ^ 16) front

-- what stands in front is no alarm, or that of a work which has none in the tree
pub record IsInFront (front : ℕ) (ticks ranks : List ℕ) : Type 0 where
  pub own : IsOwnRank ticks (front % 2 ^ 16) front
  pub alone : front ≢ no_alarm → leaf_rank ranks (front % 2 ^ 16) ≡ no_alarm

-- the tree, and what stands in front of it
pub record AreKept (front : ℕ) (ticks ranks : List ℕ) : Type 0 where
  pub tree : IsAlarmTree ticks ranks
  pub in_front : IsInFront front ticks ranks

-- the work in the rank has an alarm, and it rings at the tick in the rank
pub record TellsAlarm (alarms : List (Option ℕ)) (rank : ℕ) : Type 0 where
  pub inside : rank % 2 ^ 16 < length alarms
  pub rings : alarm_at alarms (rank % 2 ^ 16) ≡ Some (rank / 2 ^ 16)

-- no alarm has a lesser rank, and where this one has its tick whole, there is an alarm that has it
pub record IsFirstRank (alarms : List (Option ℕ)) (rank : ℕ) : Type 0 where
  pub least : (w tick : ℕ) → alarm_at alarms w ≡ Some tick → rank ≤ alarm_rank w tick
  pub whole : rank < first_late_tick * 2 ^ 16 → TellsAlarm alarms rank
