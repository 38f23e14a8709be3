-- Worked examples of runs that differ by a queue's declared max.
use Rattle.std.specs.Prelude.{ℕ, List, [], ◌∷◌, codes}
use Rattle.std.specs.List.{flat_map}
use Rattle.cmwq_types.specs.Contents.{ScenarioContents}
use Rattle.cmwq_types.specs.Listing.{text_of_lines}
use Rattle.cmwq_types.specs.Scenario.{expand, plain_flags}
use Rattle.cmwq_types.specs.declared.instr.Instr.TheVariants as instr
use Rattle.cmwq_types.specs.declared.scenario.Op.TheVariants as op
use Rattle.cmwq_examples.specs.Declare.{queue, work, highpri, enqueue, delay, cancel, set_max_to, times, scenario}
use Rattle.cmwq_reports.specs.declared.report.Format.{Format}
use Rattle.cmwq_sweep.specs.Sweeping.{sweep_text}

-- what is written of the scenario's actors, one after another; here each scenario has one
abbrev pub swept_of : Format → ScenarioContents → (queue low count : ℕ) → List ℕ
swept_of format S queue low count = flat_map (λ actor. sweep_text format S (expand actor) queue low count) S.actors

-- c and d sleep on r, and hold its places and both workers; a and b burn and sleep on q, and u takes the CPU for two ticks
abbrev pub longer_with_more : ScenarioContents
longer_with_more =
    record (scenario 100 (queue (codes "q") 1 plain_flags ∷ queue (codes "r") 1 plain_flags ∷ queue (codes "h") 1 highpri ∷ [])
    (work (codes "a") 0 (op.Burn 2 ∷ op.Sleep 3 ∷ op.Finish ∷ []) ∷ work (codes "b") 0 (op.Burn 1 ∷ op.Finish ∷ [])
    ∷ work (codes "c") 1 (op.Burn 1 ∷ op.Sleep 6 ∷ op.Finish ∷ []) ∷ work (codes "d") 1 (op.Sleep 4 ∷ op.Finish ∷ [])
    ∷ work (codes "u") 2 (op.Burn 2 ∷ op.Finish ∷ []) ∷ [])
    (enqueue 0 0 ∷ enqueue 1 0 ∷ enqueue 2 0 ∷ enqueue 3 0 ∷ times instr.Next 3 ∷ enqueue 4 0 ∷ delay 0 9 ∷ times instr.Next 60 ∷ []))
    { workers = 2 }

abbrev pub longer_with_more_told : List ℕ
longer_with_more_told =
    text_of_lines (
    codes "max 1 last 16 left 0 most 1 longest 12" ∷
    codes "max 2 last 17 left 0 most 2 longest 7" ∷
    codes "max 3 last 17 left 0 most 2 longest 7" ∷ [])

abbrev pub longer_with_more_json : List ℕ
longer_with_more_json =
    text_of_lines (
    codes "{\"max\":1,\"last\":16,\"left\":0,\"most\":1,\"longest\":12}" ∷
    codes "{\"max\":2,\"last\":17,\"left\":0,\"most\":2,\"longest\":7}" ∷ [])

-- The actor sets the queue's max to 1 before it queues, so both values come to the same; a and b finish at 1, what is cancelled at 2 is no finish, and
-- b is left with its timer.
abbrev pub set_by_the_actor : ScenarioContents
set_by_the_actor =
    record (scenario 100 (queue (codes "q") 4 plain_flags ∷ [])
    (work (codes "a") 0 (op.Burn 1 ∷ op.Finish ∷ []) ∷ work (codes "b") 0 (op.Finish ∷ []) ∷ [])
    (set_max_to 0 1 ∷ enqueue 0 0 ∷ enqueue 1 0 ∷ times instr.Next 6 ∷ delay 0 9 ∷ times instr.Tick 1 ∷ cancel 0 ∷ delay 1 9 ∷ [])) { workers = 2 }

abbrev pub set_by_the_actor_told : List ℕ
set_by_the_actor_told = text_of_lines (codes "max 2 last 1 left 1 most 1 longest 1" ∷ codes "max 3 last 1 left 1 most 1 longest 1" ∷ [])
