-- Worked examples: small scenarios, and the objects of their runs.
use Rattle.std.specs.Prelude.{ℕ, true, List, [], ◌∷◌, codes}
use Rattle.std.specs.List.{flat_map}
use Rattle.cmwq_types.specs.Contents.{ScenarioContents}
use Rattle.cmwq_types.specs.Listing.{text_of_lines}
use Rattle.cmwq_types.specs.Scenario.{expand, plain_flags}
use Rattle.cmwq_types.specs.declared.instr.Instr.TheVariants as instr
use Rattle.cmwq_types.specs.declared.scenario.Op.TheVariants as op
use Rattle.cmwq_examples.specs.Declare.{queue, work, highpri, mem_reclaim, queues, enqueue, delay, cancel, disable, flush, flush_queue, ask, state, times, scenario}
use Rattle.cmwq_trace.specs.Lines.{objects_text}

-- the objects of the scenario's actors, one after another; here each scenario has one
abbrev pub objects_of : ScenarioContents → List ℕ
objects_of S = flat_map (λ actor. objects_text S (expand actor)) S.actors

-- a burns and sleeps, b waits for room in its queue, and u takes the CPU from a for a tick
abbrev pub taken_scenario : ScenarioContents
taken_scenario =
    record (scenario 100 (queue (codes "q") 1 plain_flags ∷ queue (codes "h") 1 highpri ∷ [])
    (work (codes "a") 0 (op.Burn 2 ∷ op.Sleep 2 ∷ op.Finish ∷ []) ∷ work (codes "b") 0 (op.Burn 1 ∷ op.Finish ∷ [])
    ∷ work (codes "u") 1 (op.Burn 1 ∷ op.Finish ∷ []) ∷ [])
    (enqueue 0 0 ∷ enqueue 1 0 ∷ flush_queue 0 ∷ times instr.Next 3 ∷ enqueue 2 0 ∷ times instr.Next 17 ∷ [])) { workers = 2; flushes = 1 }

abbrev pub taken_objects : List ℕ
taken_objects =
    text_of_lines (
    codes "{\"time\":0,\"event\":\"flush\",\"flush\":0}" ∷
    codes "{\"time\":0,\"event\":\"starts\",\"work\":\"a\",\"queue\":\"q\",\"pool\":0,\"cpu\":0,\"worker\":0,\"born\":0}" ∷
    codes "{\"time\":0,\"event\":\"burns\",\"work\":\"a\",\"queue\":\"q\",\"pool\":0,\"cpu\":0,\"worker\":0,\"born\":0,\"ticks\":2}" ∷
    codes "{\"time\":1,\"event\":\"starts\",\"work\":\"u\",\"queue\":\"h\",\"pool\":1,\"cpu\":0,\"worker\":0,\"born\":3}" ∷
    codes "{\"time\":1,\"event\":\"burns\",\"work\":\"u\",\"queue\":\"h\",\"pool\":1,\"cpu\":0,\"worker\":0,\"born\":3,\"ticks\":1}" ∷
    codes "{\"time\":2,\"event\":\"finishes\",\"work\":\"u\",\"queue\":\"h\",\"pool\":1,\"cpu\":0,\"worker\":0,\"born\":3}" ∷
    codes "{\"time\":3,\"event\":\"sleeps\",\"work\":\"a\",\"queue\":\"q\",\"pool\":0,\"cpu\":0,\"worker\":0,\"born\":0,\"ticks\":2}" ∷
    codes "{\"time\":5,\"event\":\"wakes\",\"work\":\"a\",\"queue\":\"q\",\"pool\":0,\"cpu\":0,\"worker\":0,\"born\":0}" ∷
    codes "{\"time\":5,\"event\":\"finishes\",\"work\":\"a\",\"queue\":\"q\",\"pool\":0,\"cpu\":0,\"worker\":0,\"born\":0}" ∷
    codes "{\"time\":5,\"event\":\"starts\",\"work\":\"b\",\"queue\":\"q\",\"pool\":0,\"cpu\":0,\"worker\":0,\"born\":1}" ∷
    codes "{\"time\":5,\"event\":\"burns\",\"work\":\"b\",\"queue\":\"q\",\"pool\":0,\"cpu\":0,\"worker\":0,\"born\":1,\"ticks\":1}" ∷
    codes "{\"time\":6,\"event\":\"finishes\",\"work\":\"b\",\"queue\":\"q\",\"pool\":0,\"cpu\":0,\"worker\":0,\"born\":1}" ∷ [])

-- with one worker, a queues itself and sleeps, and b waits beside it; then a is cancelled, delayed, disabled, asked for and queued
abbrev pub answered_scenario : ScenarioContents
answered_scenario =
    record (scenario 100 (queue (codes "q") 2 plain_flags ∷ [])
    (work (codes "a") 0 (queues 0 ∷ op.Sleep 2 ∷ op.Finish ∷ []) ∷ work (codes "b") 0 (op.Burn 1 ∷ op.Finish ∷ []) ∷ [])
    (enqueue 0 0 ∷ times instr.Next 2 ∷ enqueue 1 0 ∷ flush 0 ∷ times instr.Next 7 ∷ cancel 0 ∷ delay 0 2 ∷ times instr.Next 9
    ∷ disable 0 ∷ state 0 ∷ enqueue 0 0 ∷ ask 0 ∷ [])) { workers = 1; flushes = 1 }

-- each reply that has words has an object, and no other one; what a timer places, and what is deferred, has no worker
abbrev pub answered_objects : List ℕ
answered_objects =
    text_of_lines (
    codes "{\"time\":0,\"event\":\"starts\",\"work\":\"a\",\"queue\":\"q\",\"pool\":0,\"cpu\":0,\"worker\":0,\"born\":0}" ∷
    codes "{\"time\":0,\"event\":\"queues\",\"work\":\"a\",\"queue\":\"q\",\"pool\":0,\"cpu\":0,\"worker\":0,\"born\":0,\"other\":\"a\"}" ∷
    codes "{\"time\":0,\"event\":\"flush\",\"flush\":0}" ∷
    codes "{\"time\":0,\"event\":\"sleeps\",\"work\":\"a\",\"queue\":\"q\",\"pool\":0,\"cpu\":0,\"worker\":0,\"born\":0,\"ticks\":2}" ∷
    codes "{\"time\":0,\"event\":\"defers\",\"work\":\"a\",\"queue\":\"q\",\"pool\":0,\"cpu\":0,\"born\":2}" ∷
    codes "{\"time\":2,\"event\":\"wakes\",\"work\":\"a\",\"queue\":\"q\",\"pool\":0,\"cpu\":0,\"worker\":0,\"born\":0}" ∷
    codes "{\"time\":2,\"event\":\"finishes and starts\",\"work\":\"a\",\"queue\":\"q\",\"pool\":0,\"cpu\":0,\"worker\":0,\"born\":2}" ∷
    codes "{\"time\":2,\"event\":\"queues\",\"work\":\"a\",\"queue\":\"q\",\"pool\":0,\"cpu\":0,\"worker\":0,\"born\":2,\"other\":\"a\"}" ∷
    codes "{\"time\":2,\"event\":\"cancelled\"}" ∷
    codes "{\"time\":2,\"event\":\"sleeps\",\"work\":\"a\",\"queue\":\"q\",\"pool\":0,\"cpu\":0,\"worker\":0,\"born\":2,\"ticks\":2}" ∷
    codes "{\"time\":4,\"event\":\"fires\",\"work\":\"a\",\"queue\":\"q\",\"pool\":0,\"cpu\":0,\"born\":9}" ∷
    codes "{\"time\":4,\"event\":\"wakes\",\"work\":\"a\",\"queue\":\"q\",\"pool\":0,\"cpu\":0,\"worker\":0,\"born\":2}" ∷
    codes "{\"time\":4,\"event\":\"finishes\",\"work\":\"a\",\"queue\":\"q\",\"pool\":0,\"cpu\":0,\"worker\":0,\"born\":2}" ∷
    codes "{\"time\":4,\"event\":\"starts\",\"work\":\"b\",\"queue\":\"q\",\"pool\":0,\"cpu\":0,\"worker\":0,\"born\":3}" ∷
    codes "{\"time\":4,\"event\":\"burns\",\"work\":\"b\",\"queue\":\"q\",\"pool\":0,\"cpu\":0,\"worker\":0,\"born\":3,\"ticks\":1}" ∷
    codes "{\"time\":5,\"event\":\"cancelled\"}" ∷
    codes "{\"time\":5,\"event\":\"state\",\"work\":\"a\",\"pending\":\"idle\",\"running\":\"still\"}" ∷
    codes "{\"time\":5,\"event\":\"refused\",\"reason\":\"Disabled\"}" ∷
    codes "{\"time\":5,\"event\":\"yes\"}" ∷ [])

-- in an unbound queue, a sets b's timer and finds it set, sets it anew, and takes b off, twice; then it finds b disabled
abbrev pub armed_scenario : ScenarioContents
armed_scenario =
    scenario 100 (queue (codes "q") 1 (record plain_flags { unbound = true }) ∷ [])
    (work (codes "a") 0
    (op.Delay (record { 0 = 1 }) 5 ∷ op.Delay (record { 0 = 1 }) 5 ∷ op.Mod (record { 0 = 1 }) 3 ∷ op.Cancel (record { 0 = 1 })
    ∷ op.Mod (record { 0 = 1 }) 7 ∷ op.Cancel (record { 0 = 1 }) ∷ op.Cancel (record { 0 = 1 }) ∷ op.Sleep 1
    ∷ op.Delay (record { 0 = 1 }) 5 ∷ op.Mod (record { 0 = 1 }) 0 ∷ op.Finish ∷ [])
    ∷ work (codes "b") 0 (op.Finish ∷ []) ∷ [])
    (enqueue 0 0 ∷ times instr.Next 9 ∷ disable 1 ∷ times instr.Next 5 ∷ [])

-- each tells the work, the ticks and what came of it
abbrev pub armed_objects : List ℕ
armed_objects =
    text_of_lines (
    codes "{\"time\":0,\"event\":\"starts\",\"work\":\"a\",\"queue\":\"q\",\"pool\":2,\"worker\":0,\"born\":0}" ∷
    codes "{\"time\":0,\"event\":\"delays\",\"work\":\"a\",\"queue\":\"q\",\"pool\":2,\"worker\":0,\"born\":0,\"other\":\"b\",\"ticks\":5}" ∷
    codes "{\"time\":0,\"event\":\"delays\",\"work\":\"a\",\"queue\":\"q\",\"pool\":2,\"worker\":0,\"born\":0,\"other\":\"b\",\"ticks\":5,\"already\":true}" ∷
    codes "{\"time\":0,\"event\":\"mods\",\"work\":\"a\",\"queue\":\"q\",\"pool\":2,\"worker\":0,\"born\":0,\"other\":\"b\",\"ticks\":3,\"changed\":true}" ∷
    codes "{\"time\":0,\"event\":\"cancels\",\"work\":\"a\",\"queue\":\"q\",\"pool\":2,\"worker\":0,\"born\":0,\"other\":\"b\"}" ∷
    codes "{\"time\":0,\"event\":\"mods\",\"work\":\"a\",\"queue\":\"q\",\"pool\":2,\"worker\":0,\"born\":0,\"other\":\"b\",\"ticks\":7}" ∷
    codes "{\"time\":0,\"event\":\"cancels\",\"work\":\"a\",\"queue\":\"q\",\"pool\":2,\"worker\":0,\"born\":0,\"other\":\"b\"}" ∷
    codes "{\"time\":0,\"event\":\"cancels\",\"work\":\"a\",\"queue\":\"q\",\"pool\":2,\"worker\":0,\"born\":0,\"other\":\"b\",\"not_pending\":true}" ∷
    codes "{\"time\":0,\"event\":\"sleeps\",\"work\":\"a\",\"queue\":\"q\",\"pool\":2,\"worker\":0,\"born\":0,\"ticks\":1}" ∷
    codes "{\"time\":0,\"event\":\"not pending\"}" ∷
    codes "{\"time\":1,\"event\":\"wakes\",\"work\":\"a\",\"queue\":\"q\",\"pool\":2,\"worker\":0,\"born\":0}" ∷
    codes "{\"time\":1,\"event\":\"delays\",\"work\":\"a\",\"queue\":\"q\",\"pool\":2,\"worker\":0,\"born\":0,\"other\":\"b\",\"ticks\":5,\"disabled\":true}" ∷
    codes "{\"time\":1,\"event\":\"mods\",\"work\":\"a\",\"queue\":\"q\",\"pool\":2,\"worker\":0,\"born\":0,\"other\":\"b\",\"ticks\":0,\"disabled\":true}" ∷
    codes "{\"time\":1,\"event\":\"finishes\",\"work\":\"a\",\"queue\":\"q\",\"pool\":2,\"worker\":0,\"born\":0}" ∷ [])

-- memory is short, and y stands in an unbound queue with a rescuer
abbrev pub rescued_scenario : ScenarioContents
rescued_scenario =
    scenario 100 (queue (codes "r") 1 (record mem_reclaim { unbound = true }) ∷ []) (work (codes "y") 0 (op.Burn 1 ∷ op.Finish ∷ []) ∷ [])
    (times instr.Pressure 1 ∷ enqueue 0 0 ∷ enqueue 0 0 ∷ times instr.Next 4 ∷ [])

-- it has no CPU, and no number
abbrev pub rescued_objects : List ℕ
rescued_objects =
    text_of_lines (
    codes "{\"time\":0,\"event\":\"already\"}" ∷
    codes "{\"time\":0,\"event\":\"starts on rescuer\",\"work\":\"y\",\"queue\":\"r\",\"pool\":2,\"rescuer\":true,\"born\":0}" ∷
    codes "{\"time\":0,\"event\":\"burns\",\"work\":\"y\",\"queue\":\"r\",\"pool\":2,\"rescuer\":true,\"born\":0,\"ticks\":1}" ∷
    codes "{\"time\":1,\"event\":\"finishes\",\"work\":\"y\",\"queue\":\"r\",\"pool\":2,\"rescuer\":true,\"born\":0}" ∷ [])
