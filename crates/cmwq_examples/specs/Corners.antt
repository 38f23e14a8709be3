-- Worked examples of corners of the table, each of which one wrong line of it would miss.
use Rattle.std.specs.Prelude.{ℕ, true, List, [], ◌∷◌, codes}
use Rattle.cmwq_types.specs.Contents.{ScenarioContents}
use Rattle.cmwq_types.specs.Listing.{text_of_lines}
use Rattle.cmwq_types.specs.Scenario.{plain_flags}
use Rattle.cmwq_types.specs.declared.instr.Instr.TheVariants as instr
use Rattle.cmwq_types.specs.declared.scenario.Op.TheVariants as op
use Rattle.cmwq_examples.specs.Declare.{queue, work, highpri, unbound, freezable, mem_reclaim, enqueue, disable, enable, set_max_to, state, times, scenario}

-- a burns, is disabled, and enabled again
abbrev pub disabled_while_running : ScenarioContents
disabled_while_running =
    scenario 1000 (queue (codes "q") 1 plain_flags ∷ [])
    (work (codes "a") 0 (op.Burn 2 ∷ op.Finish ∷ []) ∷ [])
    (enqueue 0 0 ∷ times instr.Next 2 ∷ disable 0 ∷ enqueue 0 0 ∷ enable 0 ∷ enqueue 0 0 ∷ state 0 ∷ [])

-- it can't be queued in between, though it isn't pending
abbrev pub disabled_while_running_lines : List ℕ
disabled_while_running_lines =
    text_of_lines (
    codes "0 a starts" ∷ codes "0 a burns 2" ∷ codes "0 not pending" ∷ codes "0 refused Disabled" ∷ codes "0 yes" ∷
    codes "0 a inactive 0 runs 0/0" ∷ [])

-- frozen, a of the second queue is queued before b of the first
abbrev pub thawed_by_queue : ScenarioContents
thawed_by_queue =
    scenario 1000 (queue (codes "f") 1 freezable ∷ queue (codes "g") 1 freezable ∷ [])
    (work (codes "a") 1 (op.Finish ∷ []) ∷ work (codes "b") 0 (op.Finish ∷ []) ∷ [])
    (times instr.Freeze 1 ∷ enqueue 0 0 ∷ enqueue 1 0 ∷ times instr.Thaw 1 ∷ times instr.Next 4 ∷ [])

-- the thaw fills the first queue first
abbrev pub thawed_by_queue_lines : List ℕ
thawed_by_queue_lines =
    text_of_lines (codes "0 b starts" ∷ codes "0 b finishes" ∷ codes "0 a starts" ∷ codes "0 a finishes" ∷ [])

-- frozen, a queue gets room for two
abbrev pub max_while_frozen : ScenarioContents
max_while_frozen =
    scenario 1000 (queue (codes "q") 1 freezable ∷ [])
    (work (codes "a") 0 (op.Finish ∷ []) ∷ work (codes "b") 0 (op.Finish ∷ []) ∷ [])
    (times instr.Freeze 1 ∷ set_max_to 0 2 ∷ enqueue 0 0 ∷ enqueue 1 0 ∷ state 0 ∷ times instr.Thaw 1 ∷ state 0 ∷ state 1 ∷ [])

-- after the thaw it has it
abbrev pub max_while_frozen_lines : List ℕ
max_while_frozen_lines =
    text_of_lines (codes "0 a inactive 0 still" ∷ codes "0 a listed 0 still" ∷ codes "0 b listed 0 still" ∷ [])

-- One worker, in the unbound pool: x sleeps on it, and v on the rescuer; y is queued before x wakes, and is rescued after that.
abbrev pub rescued_behind : ScenarioContents
rescued_behind =
    record
    (scenario 1000 (queue (codes "n") 1 unbound ∷ queue (codes "r") 2 (record mem_reclaim { unbound = true }) ∷ [])
    (work (codes "x") 0 (op.Sleep 1 ∷ op.Burn 1 ∷ op.Finish ∷ []) ∷ work (codes "v") 1 (op.Sleep 1 ∷ op.Finish ∷ [])
    ∷ work (codes "y") 1 (op.Burn 1 ∷ op.Finish ∷ []) ∷ [])
    (enqueue 0 0 ∷ times instr.Next 2 ∷ enqueue 1 0 ∷ times instr.Next 2 ∷ enqueue 2 0 ∷ times instr.Next 10 ∷ []))
    { workers = 1 }

-- so y finishes behind x
abbrev pub rescued_behind_lines : List ℕ
rescued_behind_lines =
    text_of_lines (
    codes "0 x starts" ∷ codes "0 x sleeps 1" ∷ codes "0 v starts on rescuer" ∷ codes "0 v sleeps 1" ∷
    codes "1 x wakes" ∷ codes "1 x burns 1" ∷ codes "1 v wakes" ∷ codes "1 v finishes" ∷
    codes "1 y starts on rescuer" ∷ codes "1 y burns 1" ∷ codes "2 x finishes" ∷ codes "2 y finishes" ∷ [])

-- One worker, on which y sleeps; z waits for a worker, and y is queued again.
abbrev pub running_and_listed : ScenarioContents
running_and_listed =
    record
    (scenario 1000 (queue (codes "n") 1 plain_flags ∷ queue (codes "r") 2 mem_reclaim ∷ [])
    (work (codes "y") 1 (op.Sleep 5 ∷ op.Finish ∷ []) ∷ work (codes "z") 0 (op.Finish ∷ []) ∷ [])
    (enqueue 0 0 ∷ times instr.Next 2 ∷ enqueue 1 0 ∷ enqueue 0 0 ∷ times (instr.Step 0) 1 ∷ []))
    { workers = 1 }

-- the free rescuer doesn't take y beside itself
abbrev pub running_and_listed_lines : List ℕ
running_and_listed_lines = text_of_lines (codes "0 y starts" ∷ codes "0 y sleeps 5" ∷ codes "0 refused NothingToDo" ∷ [])

-- memory is short, and then no longer: that takes both of two steps
abbrev pub memory_is_spent : ScenarioContents
memory_is_spent =
    scenario 2 (queue (codes "q") 1 plain_flags ∷ [])
    (work (codes "a") 0 (op.Finish ∷ []) ∷ [])
    (times instr.Pressure 1 ∷ times instr.Relief 1 ∷ enqueue 0 0 ∷ times instr.Relief 1 ∷ enable 0 ∷ [])

-- Relief that isn't wanted, and an enable of what isn't disabled, are refused as spent before all.
abbrev pub memory_is_spent_lines : List ℕ
memory_is_spent_lines =
    text_of_lines (codes "0 refused Spent" ∷ codes "0 refused Spent" ∷ codes "0 refused Spent" ∷ [])

-- one step, which pressure takes
abbrev pub pressed_again : ScenarioContents
pressed_again =
    scenario 1 (queue (codes "q") 1 plain_flags ∷ [])
    (work (codes "a") 0 (op.Finish ∷ []) ∷ [])
    (times instr.Pressure 2 ∷ [])

-- further pressure is refused as spent
abbrev pub pressed_again_lines : List ℕ
pressed_again_lines = text_of_lines (codes "0 refused Spent" ∷ [])

-- an ordered queue of high priority
abbrev pub high_and_ordered : ScenarioContents
high_and_ordered =
    scenario 1000 (queue (codes "o") 1 (record highpri { ordered = true }) ∷ [])
    (work (codes "a") 0 (op.Finish ∷ []) ∷ [])
    (enqueue 0 0 ∷ state 0 ∷ [])

-- pool 3 is the high unbound one
abbrev pub high_and_ordered_lines : List ℕ
high_and_ordered_lines = text_of_lines (codes "0 a listed 3 still" ∷ [])
