-- Scenarios in which works wait, each for reasons of its own.
use Rattle.std.specs.Prelude.{ℕ, List, [], ◌∷◌, Option, Some, None, codes, take}
use Rattle.std.specs.List.{flat_map}
use Rattle.cmwq_types.specs.Contents.{ScenarioContents}
use Rattle.cmwq_types.specs.Scenario.{expand, plain_flags}
use Rattle.cmwq_types.specs.declared.instr.Instr.TheVariants as instr
use Rattle.cmwq_types.specs.declared.scenario.Op.TheVariants as op
use Rattle.cmwq_table.specs.declared.state.Pending.{Pending}
use Rattle.cmwq_table.specs.State.{State, pending_at, running_at}
use Rattle.cmwq_table.specs.Table.{run, target_at}
use Rattle.cmwq_examples.specs.Declare.{queue, work, highpri, unbound, freezable, mem_reclaim, queues, enqueue, delay, cancel, disable, flush, flush_queue, times, scenario}
use Rattle.cmwq_reasons.specs.Reasons.{ahead, causes, reason_if_running, reason_of, reason_of_pending, waits}
use Rattle.cmwq_reasons.specs.declared.reason.Instance.{Instance}
use Rattle.cmwq_reasons.specs.declared.reason.Reason.{Reason}

-- the state behind the first instructions of the scenario's actors
abbrev pub at : ScenarioContents → ℕ → State
at S position = run S (take position (flat_map expand S.actors))

-- why the work isn't further there: what runs of it, and what pends of it
abbrev pub why : ScenarioContents → ℕ → ℕ → Option Reason × Reason
why S position w =
    (reason_if_running S (at S position) w (running_at (at S position) w), reason_of_pending S (at S position) w (pending_at (at S position) w))

-- who is blamed for that
abbrev pub caused : ScenarioContents → State → ℕ → Option Reason → List Instance
caused S s w (Some reason) = causes S s w reason
caused S s w None = []

abbrev pub blamed_at : ScenarioContents → ℕ → Instance → ℕ → List Instance
blamed_at S position x w = caused S (at S position) w (reason_of S (at S position) x)

-- who stands before the pending work there
abbrev pub stands_before : ScenarioContents → State → ℕ → Option Pending → List ℕ
stands_before S s w (Some p) = ahead S s w p.place
stands_before S s w None = []

abbrev pub ahead_at : ScenarioContents → ℕ → ℕ → List ℕ
ahead_at S position w = stands_before S (at S position) w (pending_at (at S position) w)

-- what the flush waits for there
abbrev pub waits_at : ScenarioContents → ℕ → ℕ → List Instance
waits_at S position flush = waits S (at S position) (target_at (at S position) flush)

-- a burns and sleeps in the only place of its queue, for which b waits; then u has the high pool
abbrev pub hold : ScenarioContents
hold =
    scenario 100 (queue (codes "q") 1 plain_flags ∷ queue (codes "h") 1 highpri ∷ [])
    (work (codes "a") 0 (op.Burn 2 ∷ op.Sleep 2 ∷ op.Finish ∷ []) ∷ work (codes "b") 0 (op.Burn 1 ∷ op.Finish ∷ [])
    ∷ work (codes "u") 1 (op.Burn 1 ∷ op.Finish ∷ []) ∷ [])
    (enqueue 0 0 ∷ enqueue 1 0 ∷ flush_queue 0 ∷ times instr.Next 3 ∷ enqueue 2 0 ∷ times instr.Next 17 ∷ [])

-- with one worker, a queues itself and sleeps, and b waits beside it; then a is cancelled, delayed and disabled
abbrev pub again : ScenarioContents
again =
    record (scenario 100 (queue (codes "q") 2 plain_flags ∷ [])
    (work (codes "a") 0 (queues 0 ∷ op.Sleep 2 ∷ op.Finish ∷ []) ∷ work (codes "b") 0 (op.Burn 1 ∷ op.Finish ∷ []) ∷ [])
    (enqueue 0 0 ∷ times instr.Next 2 ∷ enqueue 1 0 ∷ flush 0 ∷ times instr.Next 7 ∷ cancel 0 ∷ delay 0 2 ∷ times instr.Next 9
    ∷ disable 0 ∷ [])) { workers = 1 }

-- memory is short, and the machine frozen: x has no worker, y a rescuer, and z a freezable queue
abbrev pub outside : ScenarioContents
outside =
    scenario 100 (queue (codes "q") 1 plain_flags ∷ queue (codes "r") 1 mem_reclaim ∷ queue (codes "f") 1 freezable ∷ [])
    (work (codes "x") 0 (op.Burn 1 ∷ op.Finish ∷ []) ∷ work (codes "y") 1 (op.Burn 1 ∷ op.Finish ∷ [])
    ∷ work (codes "z") 2 (op.Burn 1 ∷ op.Finish ∷ []) ∷ [])
    (times instr.Pressure 1 ∷ times instr.Freeze 1 ∷ enqueue 0 0 ∷ enqueue 1 0 ∷ enqueue 2 0 ∷ flush 0 ∷ flush_queue 2 ∷ times instr.Next 4
    ∷ times instr.Relief 1 ∷ times instr.Next 4 ∷ times instr.Thaw 1 ∷ times instr.Next 4 ∷ [])

-- y waits for x's place in its queue, x for the concurrency level, d for c, and c for u
abbrev pub chain : ScenarioContents
chain =
    scenario 100 (queue (codes "p") 4 plain_flags ∷ queue (codes "q") 1 plain_flags ∷ queue (codes "h") 1 highpri ∷ [])
    (work (codes "c") 0 (op.Burn 9 ∷ op.Finish ∷ []) ∷ work (codes "d") 0 (op.Sleep 1 ∷ op.Burn 5 ∷ op.Finish ∷ [])
    ∷ work (codes "x") 1 (op.Burn 1 ∷ op.Finish ∷ []) ∷ work (codes "y") 1 (op.Burn 1 ∷ op.Finish ∷ [])
    ∷ work (codes "u") 2 (op.Burn 9 ∷ op.Finish ∷ []) ∷ [])
    (enqueue 1 0 ∷ times instr.Next 2 ∷ enqueue 0 0 ∷ times instr.Next 5 ∷ enqueue 2 0 ∷ enqueue 3 0 ∷ enqueue 4 0 ∷ times instr.Next 2
    ∷ flush 3 ∷ [])

-- two works of the unbound pool burn and sleep side by side, and two timers run out together
abbrev pub by_twos : ScenarioContents
by_twos =
    scenario 100 (queue (codes "n") 4 unbound ∷ [])
    (work (codes "v") 0 (op.Burn 1 ∷ op.Sleep 1 ∷ op.Finish ∷ []) ∷ work (codes "w") 0 (op.Burn 1 ∷ op.Sleep 1 ∷ op.Finish ∷ [])
    ∷ work (codes "t") 0 (op.Finish ∷ []) ∷ work (codes "k") 0 (op.Finish ∷ []) ∷ [])
    (delay 2 2 ∷ delay 3 2 ∷ enqueue 0 0 ∷ enqueue 1 0 ∷ times instr.Next 8 ∷ [])

-- a work of a freezable queue is listed before the freeze, where a worker has been made before memory is short
abbrev pub listed_before : ScenarioContents
listed_before =
    scenario 100 (queue (codes "f") 1 freezable ∷ queue (codes "q") 1 plain_flags ∷ [])
    (work (codes "z") 0 (op.Burn 1 ∷ op.Finish ∷ []) ∷ work (codes "x") 1 (op.Sleep 1 ∷ op.Finish ∷ []) ∷ [])
    (enqueue 1 0 ∷ times instr.Next 1 ∷ enqueue 0 0 ∷ times instr.Next 1 ∷ times instr.Freeze 1 ∷ times instr.Pressure 1 ∷ [])

-- Memory is short: y sleeps on its queue's rescuer, and v, w and x of that queue wait behind it; k and l of another one wait too.
abbrev pub beside_rescuer : ScenarioContents
beside_rescuer =
    scenario 100 (queue (codes "p") 1 plain_flags ∷ queue (codes "r") 2 mem_reclaim ∷ [])
    (work (codes "k") 0 (op.Finish ∷ []) ∷ work (codes "l") 0 (op.Finish ∷ []) ∷ work (codes "v") 1 (op.Finish ∷ [])
    ∷ work (codes "w") 1 (op.Finish ∷ []) ∷ work (codes "x") 1 (op.Finish ∷ []) ∷ work (codes "y") 1 (op.Sleep 2 ∷ op.Finish ∷ []) ∷ [])
    (times instr.Pressure 1 ∷ enqueue 5 0 ∷ enqueue 0 0 ∷ enqueue 1 0 ∷ enqueue 2 0 ∷ enqueue 3 0 ∷ enqueue 4 0 ∷ times instr.Next 2 ∷ [])

-- a and b sleep, each on a CPU, and are queued again; on b's CPU c of another queue burns
abbrev pub four_halves : ScenarioContents
four_halves =
    record (scenario 100 (queue (codes "q") 4 plain_flags ∷ queue (codes "r") 1 plain_flags ∷ [])
    (work (codes "a") 0 (op.Sleep 5 ∷ op.Finish ∷ []) ∷ work (codes "b") 0 (op.Sleep 5 ∷ op.Finish ∷ [])
    ∷ work (codes "c") 1 (op.Burn 9 ∷ op.Finish ∷ []) ∷ [])
    (enqueue 0 0 ∷ enqueue 1 1 ∷ times (instr.Step 0) 2 ∷ times (instr.Step 2) 2 ∷ enqueue 2 1 ∷ times (instr.Step 2) 2 ∷ enqueue 0 0
    ∷ enqueue 1 0 ∷ flush_queue 0 ∷ [])) { cpus = 2 }
