-- Scenarios and instructions by which the premises of the laws hold: no law is met for want of a case.
use Rattle.std.specs.Prelude.{List, [], ◌∷◌, ◌++◌, codes}
use Rattle.cmwq_types.specs.Contents.{ScenarioContents}
use Rattle.cmwq_types.specs.Scenario.{expand_lines, plain_flags}
use Rattle.cmwq_types.specs.declared.instr.Instr.{Instr}
use Rattle.cmwq_types.specs.declared.instr.Instr.TheVariants as instr
use Rattle.cmwq_types.specs.declared.scenario.Line.{Line}
use Rattle.cmwq_types.specs.declared.scenario.Op.TheVariants as op
use Rattle.cmwq_table.specs.State.{State}
use Rattle.cmwq_table.specs.Table.{run}
use Rattle.cmwq_examples.specs.Declare.{queue, work, freezable, ordered, unbound, disable, enqueue, flush, flush_queue, set_max_to, times, scenario}
use Rattle.cmwq_examples.specs.Rows.{burning_body}

-- the state that a scenario comes to by these lines
abbrev pub after_lines : ScenarioContents → List Line → State
after_lines S lines = run S (expand_lines lines)

-- a sleeps for a tick and b burns for five, while c is listed behind them
abbrev pub sleeper : ScenarioContents
sleeper =
    scenario 1000 (queue (codes "q") 3 plain_flags ∷ [])
    (work (codes "a") 0 (op.Sleep 1 ∷ op.Burn 1 ∷ op.Finish ∷ []) ∷ work (codes "b") 0 (burning_body 5) ∷ work (codes "c") 0 (burning_body 1) ∷ [])
    []

-- a sleeps, b burns, c is listed, and no time has passed
abbrev pub before_tick : List Line
before_tick = enqueue 0 0 ∷ enqueue 1 0 ∷ enqueue 2 0 ∷ times instr.Next 4 ∷ []

-- then the sleep of a is over, and b still burns
abbrev pub before_wake : List Line
before_wake = enqueue 0 0 ∷ enqueue 1 0 ∷ enqueue 2 0 ∷ times instr.Next 5 ∷ []

-- beside the kernel document's CPU-intensive works: the first of them burns, and the second is listed
abbrev pub before_start : List Line
before_start = enqueue 0 0 ∷ enqueue 1 0 ∷ enqueue 2 0 ∷ times instr.Next 10 ∷ []

-- c is listed, b and a wait; then max rises to 2
abbrev pub max_raised : List Line
max_raised = enqueue 2 0 ∷ enqueue 1 0 ∷ enqueue 0 0 ∷ set_max_to 0 2 ∷ []

-- works of one queue on CPU 1, and then one on CPU 0
abbrev pub queued_on_both : List Line
queued_on_both = enqueue 0 0 ∷ enqueue 1 0 ∷ enqueue 5 1 ∷ enqueue 6 1 ∷ enqueue 2 0 ∷ []

-- one worker a pool, and an unbound queue for two works at once
abbrev pub one_worker : ScenarioContents
one_worker =
    record
    (scenario 1000 (queue (codes "u") 2 unbound ∷ []) (work (codes "a") 0 (burning_body 2) ∷ work (codes "b") 0 (burning_body 2) ∷ []) [])
    { workers = 1 }

-- a burns on the one worker, and b is listed
abbrev pub worker_taken : List Line
worker_taken = enqueue 0 0 ∷ enqueue 1 0 ∷ times instr.Next 2 ∷ []

-- an ordered queue with two works
abbrev pub two_ordered : ScenarioContents
two_ordered =
    scenario 1000 (queue (codes "o") 1 ordered ∷ []) (work (codes "a") 0 (burning_body 1) ∷ work (codes "b") 0 (burning_body 1) ∷ []) []

-- a is queued, and then b
abbrev pub both_queued : List Line
both_queued = enqueue 0 0 ∷ enqueue 1 0 ∷ []

-- the work that queues itself has done so
abbrev pub itself_queued : List Line
itself_queued = enqueue 0 0 ∷ times instr.Next 2 ∷ []

-- then it sleeps, and the turn of its second instance has come
abbrev pub itself_deferred : List Line
itself_deferred = enqueue 0 0 ∷ times instr.Next 4 ∷ []

-- one work, on which a flush is given, and one on its queue
abbrev pub one_flushed : ScenarioContents
one_flushed = scenario 1000 (queue (codes "q") 1 plain_flags ∷ []) (work (codes "a") 0 (burning_body 1) ∷ []) []

abbrev pub flushes_given : List Line
flushes_given = enqueue 0 0 ∷ flush 0 ∷ flush_queue 0 ∷ []

-- the work runs to its end
abbrev pub work_finished : List Line
work_finished = flushes_given ++ times instr.Next 4 ∷ []

-- and is queued once more
abbrev pub work_queued_again : List Line
work_queued_again = work_finished ++ enqueue 0 0 ∷ []

-- the work is queued, and then disabled twice
abbrev pub work_disabled : List Line
work_disabled = enqueue 0 0 ∷ disable 0 ∷ disable 0 ∷ []

-- the instruction that queues the first work on CPU 0
abbrev pub queued_once : Instr
queued_once = instr.Queue (record { 0 = 0 }) 0

-- one work on a freezable queue
abbrev pub one_freezable : ScenarioContents
one_freezable = scenario 1000 (queue (codes "f") 1 freezable ∷ []) (work (codes "a") 0 (burning_body 1) ∷ []) []

-- beside a sleeping work: memory is short, and c is listed
abbrev pub worker_wanted : List Line
worker_wanted = enqueue 0 0 ∷ times instr.Next 2 ∷ times instr.Pressure 1 ∷ enqueue 2 0 ∷ []

-- then b is listed behind it
abbrev pub rescuer_wanted : List Line
rescuer_wanted = worker_wanted ++ enqueue 1 0 ∷ []

-- and starts
abbrev pub rescuer_taken : List Line
rescuer_taken = rescuer_wanted ++ times instr.Next 1 ∷ []

-- and finishes
abbrev pub rescuer_freed : List Line
rescuer_freed = rescuer_taken ++ times instr.Next 3 ∷ []
