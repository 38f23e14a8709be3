-- What a contract sees of `RunningWorks`: a scenario, the time, and the table's map of the running works.
use Rattle.std.specs.Prelude.{ℕ, ◌+◌, false, List, [], Option, Some, None}
use Rattle.cmwq_types.specs.Contents.{ScenarioContents}
use Rattle.cmwq_types.specs.declared.reply.Mode.TheVariants.{Runnable}
use Rattle.cmwq_table.specs.State.{State}
use Rattle.cmwq_table.specs.declared.state.Running.{Running}
use Rattle.cmwq_phased.specs.PhasedContents.{PhasedContents}
use Rattle.cmwq_phased.specs.Phases.{shown_all}
use Rattle.cmwq_phased.specs.declared.run.Phase.{Phase}
use Rattle.cmwq_phased.specs.declared.run.Phase.TheVariants.{Ready}
use Rattle.cmwq_phased.specs.declared.run.Run.{Run}

pub record RunningContents : Type 0 where
  pub scenario : ScenarioContents
  pub time : ℕ
  -- the finite map of the running works, by work
  pub running : List (Option Running)

-- a state of the table with this time and these running works, and nothing else
abbrev pub running_state : ℕ → List (Option Running) → State
running_state time running = record {
  time = time;
  next = 0;
  spent = 0;
  frozen = false;
  pressed = false;
  max = [];
  pending = [];
  running = running;
  depth = [];
  idle = [];
  made = [];
  flushes = [];
}

abbrev pub state_of : RunningContents → State
state_of m = running_state m.time m.running

-- works by their phases, as they are seen at a time
abbrev pub seen : ℕ → PhasedContents → RunningContents
seen time works = record { scenario = works.scenario; time = time; running = shown_all time works.runs }

-- the work once it is woken, under this stamp
abbrev pub woken_run : ℕ → Option Running → Option Running
woken_run stamp (Some r) = Some (record r { mode = Runnable; stamp = stamp })
woken_run stamp None = None

-- an instance at the beginning of its body, that was born then
abbrev pub first_run : ℕ → ℕ → ℕ → ℕ → Run
first_run born pool worker stamp = record { born = born; stamp = stamp; phase = Ready; pool = pool; worker = worker; pc = 0 }

-- how a sleeper runs once it is woken, under this stamp
abbrev pub roused : Run → ℕ → Run
roused r stamp = record r { stamp = stamp; phase = Ready }

-- the running work as it runs, where it has nothing left to burn
abbrev pub ready_as : Running → Run
ready_as r = record { born = r.born; stamp = r.stamp; phase = Ready; pool = r.pool; worker = r.worker; pc = r.pc }

-- the running work in this phase, at its next operation
abbrev pub onward_run : Running → Phase → Run
onward_run r phase = record { born = r.born; stamp = r.stamp; phase = phase; pool = r.pool; worker = r.worker; pc = r.pc + 1 }
