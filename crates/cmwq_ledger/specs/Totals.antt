-- Sums over a run: of each queue, of the CPUs and of the pools.
use Rattle.std.specs.Prelude.{ℕ, zero, suc, ◌+◌, ◌*◌, Bool, true, false, ◌&&◌, List, [], ◌∷◌, length, max, replicate, Option, Some, None, if◌then◌else◌, is_none, slice_index_or, slice_set}
use Rattle.cmwq_types.specs.Contents.{ScenarioContents}
use Rattle.cmwq_types.specs.Scenario.{pool_count, queue_of}
use Rattle.cmwq_types.specs.declared.instr.Instr.{Instr}
use Rattle.cmwq_types.specs.declared.reply.Event.{Event}
use Rattle.cmwq_types.specs.declared.reply.Event.TheVariants as event
use Rattle.cmwq_types.specs.declared.reply.Reply.{Reply}
use Rattle.cmwq_types.specs.declared.reply.Reply.TheVariants as reply
use Rattle.cmwq_table.specs.Counts.{active, burns, first_runnable}
use Rattle.cmwq_table.specs.State.{State, running_at}
use Rattle.cmwq_table.specs.Table.{table}
use Rattle.cmwq_table.specs.declared.state.Running.{Running}
use Rattle.cmwq_ledger.specs.Contents.{LedgerContents, TotalsContents}
use Rattle.cmwq_table.specs.Told.{cancelled_by, finished_by, started_by, work_if}
use Rattle.cmwq_ledger.specs.Ledger.{ledger_after, lets_pass, lines_ending_at, queued_ticks}
use Rattle.cmwq_ledger.specs.declared.queue_totals.Count.{Count}
use Rattle.cmwq_ledger.specs.declared.queue_totals.Count.TheVariants as count
use Rattle.cmwq_ledger.specs.declared.queue_totals.QueueTotals.{QueueTotals}
use Rattle.cmwq_ledger.specs.declared.times_line.TimesLine.{TimesLine}

abbrev pub nothing_counted : QueueTotals
nothing_counted = record { started = 0; finished = 0; cancelled = 0; rescued = 0; burned = 0; most = 0; longest = 0 }

-- the totals with which a scenario begins
abbrev pub totals_begun : ScenarioContents → TotalsContents
totals_begun S =
    record {
      queues = replicate (length S.queues) nothing_counted;
      pools = replicate (pool_count S) 0;
      idle = replicate S.cpus 0;
    }

-- one more at that number
abbrev pub one_more_at : ℕ → List ℕ → List ℕ
one_more_at k counts = slice_set counts k (slice_index_or counts k 0 + 1)

-- the queue's totals are changed so
abbrev pub at_queue : (QueueTotals → QueueTotals) → ℕ → List QueueTotals → List QueueTotals
at_queue change queue totals = slice_set totals queue (change (slice_index_or totals queue nothing_counted))

-- one more of what is counted
abbrev pub one_counted : Count → QueueTotals → QueueTotals
one_counted count.Started t = record t { started = t.started + 1 }
one_counted count.Finished t = record t { finished = t.finished + 1 }
one_counted count.Cancelled t = record t { cancelled = t.cancelled + 1 }
one_counted count.Rescued t = record t { rescued = t.rescued + 1 }
one_counted count.Burned t = record t { burned = t.burned + 1 }

-- one more of the work's queue, if it is a work
abbrev pub for_work : Count → ScenarioContents → Option ℕ → List QueueTotals → List QueueTotals
for_work what S (Some w) totals = at_queue (one_counted what) (queue_of S w) totals
for_work what S None totals = totals

-- Instances.

abbrev pub is_rescue : Event → Bool
is_rescue event.StartsOnRescuer = true
is_rescue other = false

-- the work that starts on its queue's rescuer
abbrev pub rescued_by : Reply → Option ℕ
rescued_by (reply.Event work event) = work_if (is_rescue event) work.0
rescued_by other = None

abbrev pub instances_counted : ScenarioContents → Instr → Reply → List QueueTotals → List QueueTotals
instances_counted S i reply totals =
    for_work count.Cancelled S (cancelled_by i reply) (for_work count.Rescued S (rescued_by reply)
    (for_work count.Started S (started_by reply) (for_work count.Finished S (finished_by reply) totals)))

-- Ticks.

-- a tick that a work burns is counted of its queue, and of the pool in which it runs
abbrev pub burner_counted : ScenarioContents → ℕ → Option Running → TotalsContents → TotalsContents
burner_counted S w (Some r) T =
    record T { queues = for_work count.Burned S (Some w) T.queues; pools = one_more_at r.pool T.pools }
burner_counted S w None T = T

-- the same, if it burns in this state
abbrev pub burner_counted_if : ScenarioContents → State → ℕ → TotalsContents → TotalsContents
burner_counted_if S s w T = if burns S s w (running_at s w) then burner_counted S w (running_at s w) T else T

-- the ticks that the works below n burn in this state
abbrev pub burners_counted : ScenarioContents → State → ℕ → TotalsContents → TotalsContents
burners_counted S s zero T = T
burners_counted S s (suc n) T = burner_counted_if S s n (burners_counted S s n T)

-- neither pool of the CPU has a runnable work
abbrev pub is_idle_cpu : ScenarioContents → State → ℕ → Bool
is_idle_cpu S s cpu = is_none (first_runnable S s (2 * cpu)) && is_none (first_runnable S s (2 * cpu + 1))

-- a tick in this state for which the CPUs below n are idle
abbrev pub idle_counted : ScenarioContents → State → ℕ → List ℕ → List ℕ
idle_counted S s zero counts = counts
idle_counted S s (suc n) counts = if is_idle_cpu S s n then one_more_at n (idle_counted S s n counts) else idle_counted S s n counts

abbrev pub with_idle : ScenarioContents → State → TotalsContents → TotalsContents
with_idle S s T = record T { idle = idle_counted S s S.cpus T.idle }

abbrev pub totals_ticked : ScenarioContents → State → TotalsContents → TotalsContents
totals_ticked S s T = with_idle S s (burners_counted S s (length S.works) T)

abbrev pub totals_passed : ScenarioContents → State → State → TotalsContents → TotalsContents
totals_passed S s after T =
    if lets_pass s after then totals_ticked S s T else T

-- Greatest values.

-- the greatest of the values at the numbers below n
abbrev pub greatest_below : (ℕ → ℕ) → ℕ → ℕ
greatest_below value zero = 0
greatest_below value (suc n) = max (greatest_below value n) (value n)

-- how many works of the queue are active in the pool that has most of them
abbrev pub most_active : ScenarioContents → State → ℕ → ℕ
most_active S s queue = greatest_below (active S s queue) (pool_count S)

abbrev pub at_most : ℕ → QueueTotals → QueueTotals
at_most count t = record t { most = max t.most count }

-- of the queues below n
abbrev pub most_counted : ScenarioContents → State → ℕ → List QueueTotals → List QueueTotals
most_counted S s zero totals = totals
most_counted S s (suc n) totals = at_queue (at_most (most_active S s n)) n (most_counted S s n totals)

abbrev pub as_long_as : ℕ → QueueTotals → QueueTotals
as_long_as ticks t = record t { longest = max t.longest ticks }

abbrev pub lines_counted : ScenarioContents → List TimesLine → List QueueTotals → List QueueTotals
lines_counted S [] totals = totals
lines_counted S (line ∷ lines) totals =
    lines_counted S lines (at_queue (as_long_as (queued_ticks line.account.ticks)) (queue_of S line.work.0) totals)

-- What an instruction does to totals to which the time has been added that passed in it, with the state after it and its reply, and the
-- lines of what it ends.
abbrev pub totals_moved : ScenarioContents → TotalsContents → State → Instr → Reply → List TimesLine → TotalsContents
totals_moved S T after i reply lines =
    record T { queues = most_counted S after (length S.queues) (lines_counted S lines (instances_counted S i reply T.queues)) }

-- an instruction, with the state before it, and the state after it and its reply
abbrev pub totals_by : ScenarioContents → TotalsContents → State → Instr → State × Reply → List TimesLine → TotalsContents
totals_by S T s i after lines = totals_moved S (totals_passed S s after.0 T) after.0 i after.1 lines

abbrev pub totals_after : ScenarioContents → LedgerContents → TotalsContents → State → Instr → TotalsContents
totals_after S L T s i = totals_by S T s i (table S s i) (lines_ending_at S L s i)

-- the totals after the instructions, from a ledger, totals and a state on
abbrev pub totals_from : ScenarioContents → LedgerContents → TotalsContents → State → List Instr → TotalsContents
totals_from S L T s [] = T
totals_from S L T s (i ∷ is) = totals_from S (ledger_after S L s i) (totals_after S L T s i) (table S s i).0 is

-- the lines of what is still there at the end count too
abbrev pub totals_ended : ScenarioContents → List TimesLine → TotalsContents → TotalsContents
totals_ended S still T = record T { queues = lines_counted S still T.queues }

-- how many works of the queue are active in all pools below n
abbrev pub active_below : ScenarioContents → State → ℕ → ℕ → ℕ
active_below S s queue zero = 0
active_below S s queue (suc n) = active_below S s queue n + active S s queue n

abbrev pub active_everywhere : ScenarioContents → State → ℕ → ℕ
active_everywhere S s queue = active_below S s queue (pool_count S)

-- how many ticks were burned on a CPU: in its two pools
abbrev pub burned_on : TotalsContents → ℕ → ℕ
burned_on T cpu = slice_index_or T.pools (2 * cpu) 0 + slice_index_or T.pools (2 * cpu + 1) 0
