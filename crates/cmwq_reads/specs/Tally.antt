-- What each scan counts, in the table's words.
use Rattle.std.specs.Prelude.{ℕ, Bool, ◌&&◌, ◌==◌, nat_lt}
use Rattle.cmwq_types.specs.Contents.{ScenarioContents}
use Rattle.cmwq_types.specs.Scenario.{queue_of}
use Rattle.cmwq_table.specs.State.{State, pending_at, running_at}
use Rattle.cmwq_table.specs.Counts.{has_instance, is_active, is_busy_work, is_counted, pends, runs, runs_on_rescuer}
use Rattle.cmwq_reads.specs.declared.tally.Tally.{Tally}
use Rattle.cmwq_reads.specs.declared.tally.Tally.TheVariants.{ActivePending, ActiveRunning, Counted, QueuedBefore, Rescued, Busy}

abbrev pub is_counted_by : ScenarioContents → State → Tally → ℕ → Bool
is_counted_by S s (ActivePending queue pool) w = (queue_of S w == queue) && pends (λ place. is_active place pool) (pending_at s w)
is_counted_by S s (ActiveRunning queue pool) w = (queue_of S w == queue) && runs (λ r. r.pool == pool) (running_at s w)
is_counted_by S s (Counted pool) w = is_counted S s pool w
is_counted_by S s (QueuedBefore queue bound) w = (queue_of S w == queue) && has_instance s w (λ born. nat_lt born bound)
is_counted_by S s (Rescued queue) w = (queue_of S w == queue) && runs_on_rescuer s w
is_counted_by S s Busy w = is_busy_work S s w
