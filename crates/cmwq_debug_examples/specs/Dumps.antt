-- Worked examples of dumps: a scenario, the lines of its one actor, and the dump then.
use Rattle.std.specs.Prelude.{ℕ, List, [], ◌∷◌, codes}
use Rattle.cmwq_types.specs.Contents.{ScenarioContents}
use Rattle.cmwq_types.specs.Scenario.{expand_lines, plain_flags}
use Rattle.cmwq_types.specs.declared.instr.Instr.TheVariants as instr
use Rattle.cmwq_types.specs.declared.scenario.Line.{Line}
use Rattle.cmwq_types.specs.declared.scenario.Op.TheVariants as op
use Rattle.cmwq_table.specs.Table.{run}
use Rattle.cmwq_dump.specs.Dump.{dump, pool_lines}
use Rattle.cmwq_examples.specs.Declare.{delay, delay_on, disable, enqueue, flush, freezable, queue, queues, scenario, set_max_to, times, unbound, work}
use Rattle.cmwq_types.specs.Listing.{text_of_lines}

-- the dump of a scenario once these lines were carried out
abbrev pub dumped : ScenarioContents → List Line → List ℕ
dumped S lines = dump S (run S (expand_lines lines))

abbrev pub pool_dumped : ScenarioContents → List Line → ℕ → List ℕ
pool_dumped S lines pool = pool_lines S (run S (expand_lines lines)) pool

-- sleepers s, t and u, a, which queues itself, and more; d and e share a freezable queue of one
abbrev pub many_kinds : ScenarioContents
many_kinds =
    record
    (scenario 1000 (queue (codes "q") 8 plain_flags ∷ queue (codes "f") 1 freezable ∷ [])
    (work (codes "s") 0 (op.Sleep 1 ∷ op.Finish ∷ []) ∷ work (codes "t") 0 (op.Sleep 2 ∷ op.Finish ∷ [])
    ∷ work (codes "u") 0 (op.Sleep 3 ∷ op.Finish ∷ []) ∷ work (codes "a") 0 (queues 3 ∷ op.Sleep 9 ∷ op.Finish ∷ [])
    ∷ work (codes "b") 0 (op.Sleep 8 ∷ op.Finish ∷ []) ∷ work (codes "r") 0 (op.Burn 5 ∷ op.Finish ∷ [])
    ∷ work (codes "l") 0 (op.Finish ∷ []) ∷ work (codes "d") 1 (op.Finish ∷ []) ∷ work (codes "e") 1 (op.Finish ∷ [])
    ∷ work (codes "g") 0 (op.Finish ∷ []) ∷ work (codes "h") 0 (op.Finish ∷ []) ∷ []) [])
    { workers = 8 }

-- s, t and u come and go while a and b sleep; then r burns, before l, d and e, and g and h wait for timers; u and s are disabled
abbrev pub many_kinds_lines : List Line
many_kinds_lines =
    enqueue 0 0 ∷ enqueue 1 0 ∷ enqueue 2 0 ∷ enqueue 3 0 ∷ enqueue 4 0 ∷ times instr.Next 21
    ∷ enqueue 5 0 ∷ enqueue 6 0 ∷ times instr.Next 3 ∷ delay 10 20 ∷ delay 9 20 ∷ enqueue 7 0 ∷ enqueue 8 0
    ∷ flush 3 ∷ flush 0 ∷ set_max_to 0 9 ∷ times instr.Freeze 1 ∷ times instr.Pressure 1 ∷ disable 2 ∷ disable 0 ∷ disable 2 ∷ []

-- memory is short; worker 1 became idle after worker 0; b wakes before a, which began to sleep first; h was set before g; u was disabled before s, and
-- after it
abbrev pub many_kinds_dump : List ℕ
many_kinds_dump =
    text_of_lines (
    codes "now 4 spent 43 frozen yes" ∷ codes "pressed" ∷ codes "queue q max 9" ∷ codes "queue f max 1" ∷
    codes "pool 0 counted 1 made 5 idle 1 0" ∷ codes "run r 2 1 4" ∷ codes "asleep b 4 1 8" ∷ codes "asleep a 3 2 9" ∷
    codes "listed l" ∷ codes "listed d" ∷ codes "deferred a" ∷ codes "inactive e" ∷
    codes "pool 1 counted 0 made 0 idle" ∷ codes "pool 2 counted 0 made 0 idle" ∷ codes "pool 3 counted 0 made 0 idle" ∷
    codes "timer h 0 24" ∷ codes "timer g 0 24" ∷ codes "disabled s 1" ∷ codes "disabled u 2" ∷ codes "flush 0 no" ∷
    codes "flush 1 yes" ∷ [])

abbrev pub many_kinds_pool_1 : List ℕ
many_kinds_pool_1 = text_of_lines (codes "pool 1 counted 0 made 0 idle" ∷ [])

-- Two CPUs: a and b run in the unbound pool, c and d sleep, and more; e, f and g share a queue of one.
abbrev pub busy_cpus : ScenarioContents
busy_cpus =
    record
    (scenario 1000
    (queue (codes "q") 8 plain_flags ∷ queue (codes "u") 8 unbound ∷ queue (codes "i") 1 plain_flags ∷ [])
    (work (codes "a") 1 (op.Burn 7 ∷ op.Finish ∷ []) ∷ work (codes "b") 1 (op.Burn 5 ∷ op.Finish ∷ [])
    ∷ work (codes "c") 0 (op.Sleep 9 ∷ op.Finish ∷ []) ∷ work (codes "d") 0 (op.Sleep 9 ∷ op.Finish ∷ [])
    ∷ work (codes "e") 2 (op.Finish ∷ []) ∷ work (codes "f") 2 (op.Finish ∷ []) ∷ work (codes "g") 2 (op.Finish ∷ [])
    ∷ work (codes "h") 0 (op.Finish ∷ []) ∷ work (codes "j") 0 (op.Finish ∷ []) ∷ work (codes "k") 0 (op.Finish ∷ []) ∷ []) [])
    { cpus = 2 }

-- each group's later works come first; d and c are queued again while they sleep, and j's timer is set first
abbrev pub busy_cpus_lines : List Line
busy_cpus_lines =
    enqueue 3 0 ∷ enqueue 2 0 ∷ enqueue 1 0 ∷ enqueue 0 1 ∷ times instr.Next 9 ∷ enqueue 3 0 ∷ enqueue 2 1
    ∷ times instr.Next 2 ∷ enqueue 7 1 ∷ enqueue 6 1 ∷ enqueue 5 1 ∷ enqueue 4 1 ∷ delay_on 8 0 9 ∷ delay_on 9 1 5 ∷ []

-- all stand in the order of their stamps, the sleepers too, which wake together; k's timer runs out before j's
abbrev pub two_cpus_dump : List ℕ
two_cpus_dump =
    text_of_lines (
    codes "now 1 spent 23 frozen no" ∷ codes "queue q max 8" ∷ codes "queue u max 8" ∷ codes "queue i max 1" ∷
    codes "pool 0 counted 0 made 2 idle" ∷ codes "asleep d 0 1 9" ∷ codes "asleep c 1 1 9" ∷ codes "deferred d" ∷
    codes "deferred c" ∷ codes "pool 1 counted 0 made 0 idle" ∷
    codes "pool 2 counted 0 made 0 idle" ∷ codes "listed h" ∷ codes "listed g" ∷ codes "inactive f" ∷ codes "inactive e" ∷
    codes "pool 3 counted 0 made 0 idle" ∷ codes "pool 4 counted 0 made 2 idle" ∷ codes "run b 0 1 4" ∷
    codes "run a 1 1 6" ∷ codes "pool 5 counted 0 made 0 idle" ∷ codes "timer k 1 6" ∷ codes "timer j 0 10" ∷ [])
