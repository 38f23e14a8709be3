-- How many `next` it takes until a machine is quiet.
use Rattle.std.specs.Prelude.{◌≡◌, ℕ, ◌-◌, ◌<◌, ◌≤◌, min, Bool, true, false, List, length}
use Rattle.cmwq_types.specs.Contents.{ScenarioContents}
use Rattle.cmwq_types.specs.declared.instr.Instr.{Instr}
use Rattle.cmwq_types.specs.declared.instr.Instr.TheVariants as instr
use Rattle.cmwq_types.specs.declared.limits.TheConstants.{MAX_HISTORY}
use Rattle.cmwq_table.specs.Counts.{is_quiet}
use Rattle.cmwq_table.specs.State.{State}
use Rattle.cmwq_table.specs.Repeats.{after_times}
use Rattle.cmwq_table.specs.Table.{run}

-- the state after so many `next`
abbrev pub after_nexts : ScenarioContents → State → ℕ → State
after_nexts S s n = after_times S s instr.Next n

abbrev pub is_quiet_after : ScenarioContents → State → ℕ → Bool
is_quiet_after S s n = is_quiet S (after_nexts S s n)

-- So many `next`, and at most so many can be issued, are the least after which a machine in this state is quiet.
pub record SettlesWithin (S : ScenarioContents) (s : State) (most n : ℕ) : Type 0 where
  pub within : n ≤ most
  pub quiet : is_quiet_after S s n ≡ true
  pub least : (j : ℕ) → j < n → is_quiet_after S s j ≡ false

-- however many of them are issued, at most so many, the machine isn't quiet
abbrev pub IsUnquietWithin : ScenarioContents → State → ℕ → Type 0
IsUnquietWithin S s most = (n : ℕ) → n ≤ most → is_quiet_after S s n ≡ false

-- how many `next` can be issued after the instructions: as many as steps are left, and no more instructions in all than one run
-- issues
abbrev pub nexts_left : ScenarioContents → List Instr → ℕ
nexts_left S instrs = min (S.steps - (run S instrs).spent) (MAX_HISTORY - length instrs)

-- after the instructions, so many `next` are the least after which the machine is quiet
abbrev pub Settles : ScenarioContents → List Instr → ℕ → Type 0
Settles S instrs n = SettlesWithin S (run S instrs) (nexts_left S instrs) n

-- after the instructions no `next` that can be issued makes the machine quiet
abbrev pub NeverQuiet : ScenarioContents → List Instr → Type 0
NeverQuiet S instrs = IsUnquietWithin S (run S instrs) (nexts_left S instrs)
