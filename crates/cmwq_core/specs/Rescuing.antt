-- Whom a rescuer can take.
use Rattle.std.specs.Prelude.{ℕ, Bool, ◌&&◌, is_none, List, Option}
use Rattle.cmwq_types.specs.Contents.{ScenarioContents}
use Rattle.cmwq_types.specs.Scenario.{queue_of}
use Rattle.cmwq_queued.specs.QueuedContents.{QueuedContents}
use Rattle.cmwq_running.specs.RunningContents.{RunningContents, running_state, state_of}
use Rattle.cmwq_table.specs.Counts.{has_free_rescuer}
use Rattle.cmwq_table.specs.State.{State, running_at}
use Rattle.cmwq_table.specs.declared.state.Running.{Running}

-- a state of the table with these pending and running works
abbrev pub rescue_state : QueuedContents → RunningContents → State
rescue_state queued running = record (state_of running) { pending = queued.pending }

-- the work doesn't run, and its queue has a free rescuer
abbrev pub is_untaken : ScenarioContents → List (Option Running) → ℕ → Bool
is_untaken S running w = is_none (running_at (running_state 0 running) w) && has_free_rescuer S (running_state 0 running) (queue_of S w)
