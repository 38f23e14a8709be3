-- What holds whenever a machine can go on: of places, and of the counters.
use Rattle.std.specs.Prelude.{◌≡◌, ℕ, ◌+◌, ◌*◌, ◌<◌, ◌≤◌}
use Rattle.cmwq_types.specs.Contents.{ScenarioContents}
use Rattle.cmwq_types.specs.Scenario.{pool_count}
use Rattle.cmwq_types.specs.Setting.{IsSetting}
use Rattle.cmwq_types.specs.declared.limits.TheConstants.{MAX_CPUS, MAX_DEPTH, MAX_QUEUES, MAX_WORKS}
use Rattle.cmwq_types.specs.declared.reply.Place.{Place}
use Rattle.cmwq_types.specs.declared.reply.Place.TheVariants.{Timer, Inactive, Listed, Deferred}
use Rattle.cmwq_table.specs.State.{State, depth_at}

-- a place's CPU or pool is there
abbrev pub IsPlaceReady : ScenarioContents → Place → Type 0
IsPlaceReady S (Timer due cpu) = cpu < S.cpus
IsPlaceReady S (Inactive pool) = pool < pool_count S
IsPlaceReady S (Listed pool) = pool < pool_count S
IsPlaceReady S (Deferred pool) = pool < pool_count S

-- The most stamps that filling one queue in each pool takes: a fill gives each work at most one.
abbrev pub most_everywhere : ℕ
most_everywhere = (2 * MAX_CPUS + 2) * MAX_WORKS

-- The most stamps that one instruction takes: a thaw fills each queue in each pool.
abbrev pub most_stamps : ℕ
most_stamps = MAX_QUEUES * most_everywhere

-- a change that took at most n stamps, and left time, spent steps, depths and flushes as they were
pub record Takes (n : ℕ) (old new : State) : Type 0 where
  pub next : new.next ≤ old.next + n
  pub time : new.time ≡ old.time
  pub spent : new.spent ≡ old.spent
  pub depth : new.depth ≡ old.depth
  pub flushes : new.flushes ≡ old.flushes

-- What holds between instructions: no counter outgrows what was spent, nor that the scenario's steps; and no work is
-- disabled more often than it may be.
pub record HasCounters (S : ScenarioContents) (s : State) : Type 0 where
  pub spent : s.spent ≤ S.steps
  pub time : s.time ≤ s.spent
  pub next : s.next ≤ most_stamps * s.spent
  pub depth : (w : ℕ) → depth_at s w ≤ MAX_DEPTH

-- a scenario and the state that it has come to
pub record Loaded : Type 0 where
  pub scenario : ScenarioContents
  pub state : State

abbrev pub holding : ScenarioContents → State → Loaded
holding S s = record { scenario = S; state = s }

-- what holds of every state that a valid scenario comes to
pub record IsKept (m : Loaded) : Type 0 where
  pub setting : IsSetting m.scenario
  pub counters : HasCounters m.scenario m.state
