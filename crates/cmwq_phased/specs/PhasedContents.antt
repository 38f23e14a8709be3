-- What a contract sees of `PhasedWorks`: a scenario, and how each of its works runs. Nothing of lines, alarms and counts.
use Rattle.std.specs.Prelude.{◌≡◌, ℕ, List, Option, Some, None, if◌then◌else◌, nat_le}
use Rattle.cmwq_types.specs.Contents.{ScenarioContents}
use Rattle.cmwq_phased.specs.Runs.{number_or_0, run_alarm, run_at}
use Rattle.cmwq_phased.specs.declared.run.Run.{Run}

pub record PhasedContents : Type 0 where
  pub scenario : ScenarioContents
  -- the finite map of the running works, by work
  pub runs : List (Option Run)

-- the work, if time alone ends its burn or sleep by this time
abbrev pub if_ends_by : List (Option Run) → ℕ → Option ℕ → Option ℕ
if_ends_by runs time (Some w) = if nat_le (number_or_0 (run_alarm (run_at runs w))) time then Some w else None
if_ends_by runs time None = None

-- when the work's burn or sleep ends, if time alone ends one
abbrev pub end_of : List (Option Run) → Option ℕ → Option ℕ
end_of runs (Some w) = run_alarm (run_at runs w)
end_of runs None = None

-- no two works run under one stamp
abbrev pub HaveOwnStamps : List (Option Run) → Type 0
HaveOwnStamps runs = (v w : ℕ) → (a b : Run) → run_at runs v ≡ Some a → run_at runs w ≡ Some b → a.stamp ≡ b.stamp → v ≡ w
