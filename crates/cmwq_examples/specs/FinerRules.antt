-- Worked examples of the finer rules: who comes first, where a work goes, what counts, and which refusal is told.
use Rattle.std.specs.Prelude.{ℕ, true, List, [], ◌∷◌, codes}
use Rattle.cmwq_types.specs.Contents.{ScenarioContents}
use Rattle.cmwq_types.specs.Scenario.{plain_flags}
use Rattle.cmwq_types.specs.declared.instr.Instr.{Instr}
use Rattle.cmwq_types.specs.declared.instr.Instr.TheVariants as instr
use Rattle.cmwq_types.specs.declared.scenario.Op.TheVariants as op
use Rattle.cmwq_table.specs.State.{State, start}
use Rattle.cmwq_examples.specs.Declare.{queue, work, highpri, unbound, freezable, ordered, mem_reclaim, queues, queues_on, enqueue, delay, delay_on, modify, cancel, cancel_sync, disable, enable, flush, flush_delayed, flush_queue, set_max_to, ask, state, times, scenario}
use Rattle.cmwq_types.specs.Listing.{text_of_lines}

-- two workers become idle, one after the other; then c is queued
abbrev pub two_idle_workers : ScenarioContents
two_idle_workers =
    scenario 1000 (queue (codes "q") 2 plain_flags ∷ [])
    (work (codes "a") 0 (op.Sleep 1 ∷ op.Finish ∷ []) ∷ work (codes "b") 0 (op.Sleep 1 ∷ op.Finish ∷ [])
    ∷ work (codes "c") 0 (op.Burn 1 ∷ op.Finish ∷ []) ∷ [])
    (enqueue 0 0 ∷ enqueue 1 0 ∷ times instr.Next 9 ∷ enqueue 2 0 ∷ times instr.Next 1 ∷ state 2 ∷ [])

-- the worker that became idle last is taken
abbrev pub two_idle_workers_lines : List ℕ
two_idle_workers_lines =
    text_of_lines (
    codes "0 a starts" ∷ codes "0 a sleeps 1" ∷ codes "0 b starts" ∷ codes "0 b sleeps 1" ∷ codes "1 a wakes" ∷
    codes "1 a finishes" ∷ codes "1 b wakes" ∷ codes "1 b finishes" ∷ codes "1 c starts" ∷
    codes "1 c idle runs 0/1" ∷ [])

-- y waits behind x; z of another queue is listed, and then x is cancelled
abbrev pub cancel_lets_in : ScenarioContents
cancel_lets_in =
    scenario 1000 (queue (codes "p") 1 plain_flags ∷ queue (codes "q") 1 plain_flags ∷ [])
    (work (codes "x") 0 (op.Finish ∷ []) ∷ work (codes "y") 0 (op.Finish ∷ [])
    ∷ work (codes "z") 1 (op.Finish ∷ []) ∷ [])
    (enqueue 0 0 ∷ enqueue 1 0 ∷ enqueue 2 0 ∷ cancel 0 ∷ times instr.Next 4 ∷ [])

-- y is listed behind z, though it was queued before it
abbrev pub cancel_lets_in_lines : List ℕ
cancel_lets_in_lines =
    text_of_lines (
    codes "0 cancelled" ∷ codes "0 z starts" ∷ codes "0 z finishes" ∷ codes "0 y starts" ∷ codes "0 y finishes" ∷ [])

-- a wakes while b burns
abbrev pub wakes_behind : ScenarioContents
wakes_behind =
    scenario 1000 (queue (codes "q") 3 plain_flags ∷ [])
    (work (codes "a") 0 (op.Sleep 1 ∷ op.Burn 2 ∷ op.Finish ∷ [])
    ∷ work (codes "b") 0 (op.Burn 3 ∷ op.Finish ∷ []) ∷ [])
    (enqueue 0 0 ∷ enqueue 1 0 ∷ times instr.Next 15 ∷ [])

-- b goes on, and a has the CPU when b has finished
abbrev pub wakes_behind_lines : List ℕ
wakes_behind_lines =
    text_of_lines (
    codes "0 a starts" ∷ codes "0 a sleeps 1" ∷ codes "0 b starts" ∷ codes "0 b burns 3" ∷ codes "1 a wakes" ∷
    codes "3 b finishes" ∷ codes "3 a burns 2" ∷ codes "5 a finishes" ∷ [])

-- a delay on CPU 1
abbrev pub delay_on_cpu : ScenarioContents
delay_on_cpu =
    record
    (scenario 1000 (queue (codes "q") 1 plain_flags ∷ [])
    (work (codes "a") 0 (op.Finish ∷ []) ∷ [])
    (delay_on 0 1 1 ∷ times instr.Next 2 ∷ state 0 ∷ []))
    { cpus = 2 }

-- a is listed in the normal pool of CPU 1
abbrev pub delay_on_cpu_lines : List ℕ
delay_on_cpu_lines =
    text_of_lines (
    codes "1 a fires" ∷ codes "1 a listed 2 still" ∷ [])

-- one queue with both flags
abbrev pub high_and_unbound : ScenarioContents
high_and_unbound =
    scenario 1000 (queue (codes "u") 1 (record highpri { unbound = true }) ∷ [])
    (work (codes "a") 0 (op.Finish ∷ []) ∷ [])
    (enqueue 0 0 ∷ state 0 ∷ [])

-- pool 3 is the high unbound one
abbrev pub high_and_unbound_lines : List ℕ
high_and_unbound_lines =
    text_of_lines (
    codes "0 a listed 3 still" ∷ [])

-- a is listed and b waits; then a gets a timer, and a further delay
abbrev pub mod_and_delay : ScenarioContents
mod_and_delay =
    scenario 1000 (queue (codes "q") 1 plain_flags ∷ [])
    (work (codes "a") 0 (op.Finish ∷ []) ∷ work (codes "b") 0 (op.Finish ∷ []) ∷ [])
    (enqueue 0 0 ∷ enqueue 1 0 ∷ modify 0 5 ∷ state 1 ∷ delay 0 9 ∷ state 0 ∷ [])

-- b is let in, and the timer stays at 5
abbrev pub mod_and_delay_lines : List ℕ
mod_and_delay_lines =
    text_of_lines (
    codes "0 changed" ∷ codes "0 b listed 0 still" ∷ codes "0 already" ∷ codes "0 a timer 5 still" ∷ [])

-- a queues itself, sleeps and burns; b wakes meanwhile
abbrev pub starts_again_behind : ScenarioContents
starts_again_behind =
    scenario 1000 (queue (codes "q") 2 plain_flags ∷ [])
    (work (codes "a") 0 (queues 0 ∷ op.Sleep 1 ∷ op.Burn 2 ∷ op.Finish ∷ [])
    ∷ work (codes "b") 0 (op.Sleep 2 ∷ op.Burn 1 ∷ op.Finish ∷ []) ∷ [])
    (enqueue 0 0 ∷ enqueue 1 0 ∷ set_max_to 0 3 ∷ times instr.Next 18 ∷ [])

-- a's second instance begins at 3, behind b
abbrev pub starts_again_behind_lines : List ℕ
starts_again_behind_lines =
    text_of_lines (
    codes "0 a starts" ∷ codes "0 a queues a" ∷ codes "0 a sleeps 1" ∷ codes "0 b starts" ∷ codes "0 b sleeps 2" ∷
    codes "0 a defers" ∷ codes "1 a wakes" ∷ codes "1 a burns 2" ∷ codes "2 b wakes" ∷
    codes "3 a finishes and starts" ∷ codes "3 b burns 1" ∷ codes "4 b finishes" ∷ codes "4 a queues a" ∷
    codes "4 a sleeps 1" ∷ [])

-- a is on a freezable queue, b is not
abbrev pub busy : ScenarioContents
busy =
    scenario 1000 (queue (codes "f") 1 freezable ∷ queue (codes "q") 1 plain_flags ∷ [])
    (work (codes "a") 0 (op.Burn 1 ∷ op.Finish ∷ []) ∷ work (codes "b") 1 (op.Finish ∷ []) ∷ [])
    (enqueue 0 0 ∷ times instr.Busy 1 ∷ times instr.Next 1 ∷ times instr.Busy 1 ∷ times instr.Next 3 ∷ enqueue 1 0
    ∷ times instr.Busy 1 ∷ times instr.Freeze 1 ∷ enqueue 0 0 ∷ state 0 ∷ cancel 1 ∷ enqueue 1 0 ∷ state 1
    ∷ times instr.Busy 1 ∷ [])

-- busy while a is listed or runs; frozen, a waits and b does not
abbrev pub busy_lines : List ℕ
busy_lines =
    text_of_lines (
    codes "0 yes" ∷ codes "0 a starts" ∷ codes "0 yes" ∷ codes "0 a burns 1" ∷ codes "1 a finishes" ∷ codes "1 no" ∷
    codes "1 a inactive 0 still" ∷ codes "1 cancelled" ∷ codes "1 b listed 0 still" ∷ codes "1 no" ∷ [])

-- b before a, twice with one end
abbrev pub equal_times : ScenarioContents
equal_times =
    scenario 1000 (queue (codes "q") 2 plain_flags ∷ [])
    (work (codes "a") 0 (op.Sleep 1 ∷ op.Finish ∷ []) ∷ work (codes "b") 0 (op.Sleep 1 ∷ op.Finish ∷ []) ∷ [])
    (delay 1 1 ∷ delay 0 1 ∷ times instr.Next 12 ∷ [])

-- b fires, starts and wakes before a
abbrev pub equal_times_lines : List ℕ
equal_times_lines =
    text_of_lines (
    codes "1 b fires" ∷ codes "1 a fires" ∷ codes "1 b starts" ∷ codes "1 b sleeps 1" ∷ codes "1 a starts" ∷
    codes "1 a sleeps 1" ∷ codes "2 b wakes" ∷ codes "2 b finishes" ∷ codes "2 a wakes" ∷ codes "2 a finishes" ∷ [])

-- three workers become idle in another order than they began; then all four are in use
abbrev pub unbound_workers : ScenarioContents
unbound_workers =
    scenario 1000 (queue (codes "u") 5 unbound ∷ [])
    (work (codes "a") 0 (op.Burn 2 ∷ op.Finish ∷ []) ∷ work (codes "b") 0 (op.Burn 2 ∷ op.Finish ∷ [])
    ∷ work (codes "c") 0 (op.Burn 3 ∷ op.Finish ∷ []) ∷ work (codes "d") 0 (op.Burn 1 ∷ op.Finish ∷ [])
    ∷ work (codes "e") 0 (op.Finish ∷ []) ∷ [])
    (enqueue 2 0 ∷ enqueue 1 0 ∷ enqueue 0 0 ∷ times instr.Next 12 ∷ enqueue 1 0 ∷ times instr.Next 1 ∷ state 1
    ∷ enqueue 0 0 ∷ times instr.Next 2 ∷ state 0 ∷ enqueue 2 0 ∷ times instr.Next 2 ∷ state 2 ∷ enqueue 3 0
    ∷ times instr.Next 2 ∷ state 3 ∷ enqueue 4 0 ∷ times instr.Next 4 ∷ state 4 ∷ [])

-- c began first and ends last, so its worker 0 is taken first; the fifth work waits for a worker
abbrev pub unbound_workers_lines : List ℕ
unbound_workers_lines =
    text_of_lines (
    codes "0 c starts" ∷ codes "0 c burns 3" ∷ codes "0 b starts" ∷ codes "0 b burns 2" ∷ codes "0 a starts" ∷
    codes "0 a burns 2" ∷ codes "2 b finishes" ∷ codes "2 a finishes" ∷ codes "3 c finishes" ∷ codes "3 b starts" ∷
    codes "3 b idle runs 2/0" ∷ codes "3 b burns 2" ∷ codes "3 a starts" ∷ codes "3 a idle runs 2/2" ∷
    codes "3 a burns 2" ∷ codes "3 c starts" ∷ codes "3 c idle runs 2/1" ∷ codes "3 c burns 3" ∷ codes "3 d starts" ∷
    codes "3 d idle runs 2/3" ∷ codes "3 d burns 1" ∷ codes "4 d finishes" ∷ codes "4 e starts" ∷
    codes "4 e idle runs 2/3" ∷ [])

-- y is listed, then x wakes, then y starts
abbrev pub starts_behind : ScenarioContents
starts_behind =
    scenario 1000 (queue (codes "u") 2 unbound ∷ [])
    (work (codes "x") 0 (op.Sleep 1 ∷ op.Burn 1 ∷ op.Finish ∷ [])
    ∷ work (codes "y") 0 (op.Burn 1 ∷ op.Finish ∷ []) ∷ [])
    (enqueue 0 0 ∷ times instr.Next 3 ∷ enqueue 1 0 ∷ times instr.Next 7 ∷ [])

-- x finishes before y
abbrev pub starts_behind_lines : List ℕ
starts_behind_lines =
    text_of_lines (
    codes "0 x starts" ∷ codes "0 x sleeps 1" ∷ codes "1 x wakes" ∷ codes "1 x burns 1" ∷ codes "1 y starts" ∷
    codes "1 y burns 1" ∷ codes "2 x finishes" ∷ codes "2 y finishes" ∷ [])

-- a queue with works that wait on two CPUs, and another queue with a work that waits
abbrev pub fills : ScenarioContents
fills =
    record
    (scenario 1000 (queue (codes "p") 1 plain_flags ∷ queue (codes "q") 1 plain_flags ∷ [])
    (work (codes "v") 0 (op.Finish ∷ []) ∷ work (codes "w") 0 (op.Finish ∷ [])
    ∷ work (codes "a") 1 (op.Finish ∷ []) ∷ work (codes "b") 1 (op.Finish ∷ [])
    ∷ work (codes "c") 1 (op.Finish ∷ []) ∷ work (codes "d") 1 (op.Finish ∷ [])
    ∷ work (codes "e") 1 (op.Finish ∷ []) ∷ [])
    (enqueue 0 0 ∷ enqueue 1 0 ∷ enqueue 5 1 ∷ enqueue 6 1 ∷ enqueue 2 0 ∷ enqueue 3 0 ∷ enqueue 4 0 ∷ state 2
    ∷ state 5 ∷ state 6 ∷ set_max_to 1 3 ∷ state 3 ∷ state 4 ∷ state 6 ∷ state 1 ∷ []))
    { cpus = 2 }

-- d is listed beside a; then b, c and e are let in, each in its pool, and w is not
abbrev pub fills_lines : List ℕ
fills_lines =
    text_of_lines (
    codes "0 a listed 0 still" ∷ codes "0 d listed 2 still" ∷ codes "0 e inactive 2 still" ∷
    codes "0 b listed 0 still" ∷ codes "0 c listed 0 still" ∷ codes "0 e listed 2 still" ∷
    codes "0 w inactive 0 still" ∷ [])

-- x is on another queue and c on a timer; a is listed and b waits; then a and b are cancelled
abbrev pub flush_targets : ScenarioContents
flush_targets =
    record
    (scenario 1000 (queue (codes "p") 1 plain_flags ∷ queue (codes "q") 1 plain_flags ∷ [])
    (work (codes "x") 0 (op.Finish ∷ []) ∷ work (codes "a") 1 (op.Finish ∷ [])
    ∷ work (codes "b") 1 (op.Finish ∷ []) ∷ work (codes "c") 1 (op.Finish ∷ []) ∷ [])
    (enqueue 0 0 ∷ delay 3 9 ∷ flush_queue 1 ∷ ask 0 ∷ enqueue 1 0 ∷ enqueue 2 0 ∷ flush 2 ∷ flush_queue 1
    ∷ flush 3 ∷ ask 1 ∷ ask 3 ∷ cancel 1 ∷ ask 1 ∷ ask 2 ∷ cancel 2 ∷ ask 1 ∷ ask 2 ∷ cancel_sync 1 ∷ ask 4 ∷ []))
    { flushes = 8 }

-- flush 0 and flush 3 wait for nothing; flushes 1 and 2 are done when b is cancelled, not when it is let in
abbrev pub flush_targets_lines : List ℕ
flush_targets_lines =
    text_of_lines (
    codes "0 flush 0" ∷ codes "0 yes" ∷ codes "0 flush 1" ∷ codes "0 flush 2" ∷ codes "0 flush 3" ∷ codes "0 no" ∷
    codes "0 yes" ∷ codes "0 cancelled" ∷ codes "0 no" ∷ codes "0 no" ∷ codes "0 cancelled" ∷ codes "0 yes" ∷
    codes "0 yes" ∷ codes "0 not pending flush 4" ∷ codes "0 yes" ∷ [])

-- a queues itself and sleeps, twice; b waits each time
abbrev pub deferring : ScenarioContents
deferring =
    scenario 1000 (queue (codes "q") 2 plain_flags ∷ [])
    (work (codes "a") 0 (queues 0 ∷ op.Sleep 1 ∷ op.Finish ∷ []) ∷ work (codes "b") 0 (op.Finish ∷ []) ∷ [])
    (enqueue 0 0 ∷ times instr.Next 4 ∷ state 0 ∷ flush 0 ∷ enqueue 1 0 ∷ state 1 ∷ times instr.Next 3 ∷ state 1
    ∷ state 0 ∷ ask 0 ∷ times instr.Next 1 ∷ state 0 ∷ times instr.Next 4 ∷ enqueue 1 0 ∷ state 1 ∷ cancel 0
    ∷ state 1 ∷ state 0 ∷ times instr.Next 5 ∷ ask 0 ∷ [])

-- b waits for the place of the deferred instance; flush 0 is on that instance, and is done when it has finished
abbrev pub deferring_lines : List ℕ
deferring_lines =
    text_of_lines (
    codes "0 a starts" ∷ codes "0 a queues a" ∷ codes "0 a sleeps 1" ∷ codes "0 a defers" ∷
    codes "0 a deferred 0 asleep 0/0 1" ∷ codes "0 flush 0" ∷ codes "0 b inactive 0 still" ∷ codes "1 a wakes" ∷
    codes "1 a finishes and starts" ∷ codes "1 b listed 0 still" ∷ codes "1 a idle runs 0/0" ∷ codes "1 no" ∷
    codes "1 a queues a" ∷ codes "1 a inactive 0 runs 0/0" ∷ codes "1 a sleeps 1" ∷ codes "1 b starts" ∷
    codes "1 b finishes" ∷ codes "1 a defers" ∷ codes "1 b inactive 0 still" ∷ codes "1 cancelled" ∷
    codes "1 b listed 0 still" ∷ codes "1 a idle asleep 0/0 2" ∷ codes "1 b starts" ∷ codes "1 b finishes" ∷
    codes "2 a wakes" ∷ codes "2 a finishes" ∷ codes "2 yes" ∷ [])

-- a on CPU 0, b on CPU 1, and c on the high pool of CPU 1
abbrev pub two_cpus : ScenarioContents
two_cpus =
    record
    (scenario 1000 (queue (codes "n") 2 plain_flags ∷ queue (codes "h") 1 highpri ∷ [])
    (work (codes "a") 0 (op.Burn 2 ∷ op.Finish ∷ []) ∷ work (codes "b") 0 (op.Burn 2 ∷ op.Finish ∷ [])
    ∷ work (codes "c") 1 (op.Burn 1 ∷ op.Finish ∷ []) ∷ [])
    (enqueue 2 1 ∷ enqueue 1 1 ∷ enqueue 0 0 ∷ times instr.Next 12 ∷ []))
    { cpus = 2 }

-- c holds up b, and not a
abbrev pub two_cpus_lines : List ℕ
two_cpus_lines =
    text_of_lines (
    codes "0 a starts" ∷ codes "0 a burns 2" ∷ codes "0 b starts" ∷ codes "0 b burns 2" ∷ codes "0 c starts" ∷
    codes "0 c burns 1" ∷ codes "1 c finishes" ∷ codes "2 a finishes" ∷ codes "3 b finishes" ∷ [])

-- the body of a queues b twice
abbrev pub queues_others : ScenarioContents
queues_others =
    record
    (scenario 1000 (queue (codes "q") 2 plain_flags ∷ [])
    (work (codes "a") 0 (queues_on 1 1 ∷ queues 1 ∷ op.Finish ∷ []) ∷ work (codes "b") 0 (op.Finish ∷ []) ∷ [])
    (enqueue 0 0 ∷ times instr.Next 4 ∷ state 1 ∷ []))
    { cpus = 2 }

-- b is listed on CPU 1, where it was queued first
abbrev pub queues_others_lines : List ℕ
queues_others_lines =
    text_of_lines (
    codes "0 a starts" ∷ codes "0 a queues b" ∷ codes "0 a queues b already" ∷ codes "0 a finishes" ∷
    codes "0 b listed 2 still" ∷ [])

-- delays at 2; then a and b are put on the worklist anew, b last
abbrev pub later_times : ScenarioContents
later_times =
    scenario 1000 (queue (codes "q") 2 plain_flags ∷ [])
    (work (codes "a") 0 (op.Finish ∷ []) ∷ work (codes "b") 0 (op.Finish ∷ []) ∷ [])
    (times instr.Tick 2 ∷ delay 0 3 ∷ enqueue 0 0 ∷ state 0 ∷ modify 0 1 ∷ state 0 ∷ modify 1 0 ∷ modify 0 0
    ∷ modify 1 0 ∷ times instr.Next 4 ∷ [])

-- a starts before b
abbrev pub later_times_lines : List ℕ
later_times_lines =
    text_of_lines (
    codes "2 already" ∷ codes "2 a timer 5 still" ∷ codes "2 changed" ∷ codes "2 a timer 3 still" ∷
    codes "2 changed" ∷ codes "2 changed" ∷ codes "2 a starts" ∷ codes "2 a finishes" ∷ codes "2 b starts" ∷
    codes "2 b finishes" ∷ [])

-- one worker a pool: a queues itself and sleeps, and b is queued
abbrev pub one_worker : ScenarioContents
one_worker =
    record
    (scenario 1000 (queue (codes "q") 3 plain_flags ∷ [])
    (work (codes "a") 0 (queues 0 ∷ op.Sleep 1 ∷ op.Finish ∷ []) ∷ work (codes "b") 0 (op.Finish ∷ []) ∷ [])
    (enqueue 0 0 ∷ times instr.Next 4 ∷ enqueue 1 0 ∷ times instr.Next 3 ∷ state 1 ∷ []))
    { workers = 1 }

-- b is listed while the worker sleeps, and after it has begun again
abbrev pub one_worker_lines : List ℕ
one_worker_lines =
    text_of_lines (
    codes "0 a starts" ∷ codes "0 a queues a" ∷ codes "0 a sleeps 1" ∷ codes "0 a defers" ∷ codes "1 a wakes" ∷
    codes "1 a finishes and starts" ∷ codes "1 b listed 0 still" ∷ [])

-- five steps, between refusals and questions
abbrev pub what_is_spent : ScenarioContents
what_is_spent =
    scenario 5 (queue (codes "q") 1 plain_flags ∷ [])
    (work (codes "a") 0 (op.Finish ∷ []) ∷ [])
    (enqueue 0 1 ∷ times instr.Fire 1 ∷ times instr.Busy 1 ∷ enqueue 0 0 ∷ enqueue 0 0 ∷ cancel 0 ∷ cancel 0
    ∷ flush 0 ∷ times instr.Busy 1 ∷ ask 0 ∷ state 0 ∷ times instr.Fire 1 ∷ ask 1 ∷ enqueue 0 1 ∷ [])

-- queue, already, cancelled, not pending and flush are the five
abbrev pub what_is_spent_lines : List ℕ
what_is_spent_lines =
    text_of_lines (
    codes "0 refused NoSuchCpu" ∷ codes "0 refused NothingToDo" ∷ codes "0 no" ∷ codes "0 already" ∷
    codes "0 cancelled" ∷ codes "0 not pending" ∷ codes "0 flush 0" ∷ codes "0 no" ∷ codes "0 yes" ∷
    codes "0 a idle still" ∷ codes "0 refused Spent" ∷ codes "0 refused NoSuchFlush" ∷
    codes "0 refused NoSuchCpu" ∷ [])

-- no flush can be given; a is listed and b on a timer
abbrev pub no_flushes : ScenarioContents
no_flushes =
    record
    (scenario 1000 (queue (codes "q") 1 plain_flags ∷ [])
    (work (codes "a") 0 (op.Finish ∷ []) ∷ work (codes "b") 0 (op.Finish ∷ []) ∷ [])
    (enqueue 0 0 ∷ delay 1 5 ∷ flush 0 ∷ flush_delayed 1 ∷ flush_queue 0 ∷ cancel_sync 0 ∷ state 0 ∷ state 1 ∷ []))
    { flushes = 0 }

-- a is still listed, and b still on its timer
abbrev pub no_flushes_lines : List ℕ
no_flushes_lines =
    text_of_lines (
    codes "0 refused TooManyFlushes" ∷ codes "0 refused TooManyFlushes" ∷ codes "0 refused TooManyFlushes" ∷
    codes "0 refused TooManyFlushes" ∷ codes "0 a listed 0 still" ∷ codes "0 b timer 5 still" ∷ [])

-- operands at their limits and past them
abbrev pub operand_limits : ScenarioContents
operand_limits =
    scenario 1000 (queue (codes "q") 1 plain_flags ∷ queue (codes "u") 1 unbound ∷ queue (codes "o") 1 ordered ∷ [])
    (work (codes "a") 0 (op.Finish ∷ []) ∷ work (codes "b") 1 (op.Finish ∷ []) ∷ [])
    (enqueue 1 1 ∷ set_max_to 0 512 ∷ set_max_to 0 513 ∷ set_max_to 2 0 ∷ set_max_to 2 1 ∷ times (instr.Step 3) 1
    ∷ times (instr.Step 4) 1 ∷ flush 0 ∷ ask 0 ∷ ask 1 ∷ [])

-- 512, pool 3 and the first flush are there; 513, pool 4 and a second flush aren't
abbrev pub operand_limits_lines : List ℕ
operand_limits_lines =
    text_of_lines (
    codes "0 refused NoSuchCpu" ∷ codes "0 refused BadCount" ∷ codes "0 refused BadCount" ∷
    codes "0 refused Ordered" ∷ codes "0 refused NothingToDo" ∷ codes "0 refused NoSuchPool" ∷ codes "0 flush 0" ∷
    codes "0 yes" ∷ codes "0 refused NoSuchFlush" ∷ [])

-- a is listed and b waits; then a is put on the worklist anew
abbrev pub mod_goes_behind : ScenarioContents
mod_goes_behind =
    scenario 1000 (queue (codes "q") 1 plain_flags ∷ [])
    (work (codes "a") 0 (op.Finish ∷ []) ∷ work (codes "b") 0 (op.Finish ∷ []) ∷ [])
    (enqueue 0 0 ∷ enqueue 1 0 ∷ modify 0 0 ∷ state 0 ∷ state 1 ∷ [])

-- b has the room, and a waits
abbrev pub mod_goes_behind_lines : List ℕ
mod_goes_behind_lines =
    text_of_lines (
    codes "0 changed" ∷ codes "0 a inactive 0 still" ∷ codes "0 b listed 0 still" ∷ [])

-- a runs on the second worker, and queues itself
abbrev pub same_worker : ScenarioContents
same_worker =
    scenario 1000 (queue (codes "q") 3 plain_flags ∷ [])
    (work (codes "a") 0 (queues 0 ∷ op.Sleep 1 ∷ op.Finish ∷ [])
    ∷ work (codes "b") 0 (op.Sleep 5 ∷ op.Finish ∷ []) ∷ [])
    (enqueue 1 0 ∷ enqueue 0 0 ∷ times instr.Next 9 ∷ state 0 ∷ [])

-- it is still on worker 1
abbrev pub same_worker_lines : List ℕ
same_worker_lines =
    text_of_lines (
    codes "0 b starts" ∷ codes "0 b sleeps 5" ∷ codes "0 a starts" ∷ codes "0 a queues a" ∷ codes "0 a sleeps 1" ∷
    codes "0 a defers" ∷ codes "1 a wakes" ∷ codes "1 a finishes and starts" ∷ codes "1 a idle runs 0/1" ∷ [])

-- frozen, works of two freezable queues wait in three pools; after the thaw one is cancelled, and one ends
abbrev pub thaw_fills : ScenarioContents
thaw_fills =
    record
    (scenario 1000 (queue (codes "q") 1 plain_flags ∷ queue (codes "f") 1 freezable ∷ queue (codes "g") 1 (record unbound { freezable = true }) ∷ [])
    (work (codes "a") 1 (op.Finish ∷ []) ∷ work (codes "c") 2 (op.Finish ∷ [])
    ∷ work (codes "d") 1 (op.Finish ∷ []) ∷ work (codes "e") 1 (op.Finish ∷ [])
    ∷ work (codes "h") 1 (op.Finish ∷ []) ∷ [])
    (times instr.Freeze 1 ∷ enqueue 0 0 ∷ enqueue 1 0 ∷ enqueue 2 1 ∷ enqueue 3 1 ∷ enqueue 4 1 ∷ state 1
    ∷ times instr.Thaw 1 ∷ state 0 ∷ state 1 ∷ state 2 ∷ state 3 ∷ cancel 2 ∷ state 3 ∷ times instr.Next 4
    ∷ state 4 ∷ []))
    { cpus = 2 }

-- a, c and d are let in, then e for d, and h for e
abbrev pub thaw_fills_lines : List ℕ
thaw_fills_lines =
    text_of_lines (
    codes "0 c inactive 4 still" ∷ codes "0 a listed 0 still" ∷ codes "0 c listed 4 still" ∷
    codes "0 d listed 2 still" ∷ codes "0 e inactive 2 still" ∷ codes "0 cancelled" ∷ codes "0 e listed 2 still" ∷
    codes "0 a starts" ∷ codes "0 a finishes" ∷ codes "0 e starts" ∷ codes "0 e finishes" ∷
    codes "0 h listed 2 still" ∷ [])

-- a burns, and gets a timer
abbrev pub flush_beside_timer : ScenarioContents
flush_beside_timer =
    scenario 1000 (queue (codes "q") 1 plain_flags ∷ [])
    (work (codes "a") 0 (op.Burn 1 ∷ op.Finish ∷ []) ∷ [])
    (enqueue 0 0 ∷ times instr.Next 2 ∷ delay 0 9 ∷ flush 0 ∷ ask 0 ∷ times instr.Next 2 ∷ ask 0 ∷ state 0 ∷ [])

-- the flush is done when a has finished, though its timer still runs
abbrev pub flush_beside_timer_lines : List ℕ
flush_beside_timer_lines =
    text_of_lines (
    codes "0 a starts" ∷ codes "0 a burns 1" ∷ codes "0 flush 0" ∷ codes "0 no" ∷ codes "1 a finishes" ∷
    codes "1 yes" ∷ codes "1 a timer 9 still" ∷ [])

-- a work on CPU 1, and steps of other pools
abbrev pub pools_apart : ScenarioContents
pools_apart =
    record
    (scenario 1000 (queue (codes "q") 1 plain_flags ∷ [])
    (work (codes "a") 0 (op.Sleep 1 ∷ op.Finish ∷ []) ∷ [])
    (enqueue 0 1 ∷ times (instr.Step 0) 1 ∷ times (instr.Step 2) 2 ∷ times instr.Tick 1 ∷ times (instr.Step 0) 1
    ∷ times (instr.Step 2) 1 ∷ times (instr.Step 1) 1 ∷ times (instr.Step 2) 1 ∷ []))
    { cpus = 2 }

-- pools 0 and 1 have nothing to do
abbrev pub pools_apart_lines : List ℕ
pools_apart_lines =
    text_of_lines (
    codes "0 refused NothingToDo" ∷ codes "0 a starts" ∷ codes "0 a sleeps 1" ∷ codes "1 refused NothingToDo" ∷
    codes "1 a wakes" ∷ codes "1 refused NothingToDo" ∷ codes "1 a finishes" ∷ [])

-- a is disabled on a timer, c while it is listed and b behind it waits, and b while it runs; then no step is left
abbrev pub disabled_anywhere : ScenarioContents
disabled_anywhere =
    scenario 12 (queue (codes "q") 1 plain_flags ∷ [])
    (work (codes "a") 0 (op.Finish ∷ []) ∷ work (codes "b") 0 (op.Burn 2 ∷ op.Finish ∷ [])
    ∷ work (codes "c") 0 (op.Finish ∷ []) ∷ [])
    (delay 0 2 ∷ disable 0 ∷ enqueue 0 1 ∷ delay 0 9 ∷ enqueue 2 0 ∷ enqueue 1 0 ∷ disable 2 ∷ state 1
    ∷ times instr.Next 2 ∷ disable 1 ∷ times instr.Next 4 ∷ state 0 ∷ enqueue 0 0 ∷ delay 0 1 ∷ modify 0 1 ∷ enable 0 ∷ disable 0
    ∷ enqueue 0 1 ∷ [])

-- at 2 no timer fires; b is let in when c is taken off, and goes on to its end; the last six are refused
abbrev pub disabled_anywhere_lines : List ℕ
disabled_anywhere_lines =
    text_of_lines (
    codes "0 cancelled" ∷ codes "0 refused NoSuchCpu" ∷ codes "0 refused Disabled" ∷ codes "0 cancelled" ∷
    codes "0 b listed 0 still" ∷ codes "0 b starts" ∷ codes "0 b burns 2" ∷ codes "0 not pending" ∷
    codes "2 b finishes" ∷ codes "3 a idle still" ∷ codes "3 refused Spent" ∷ codes "3 refused Spent" ∷
    codes "3 refused Spent" ∷ codes "3 refused Spent" ∷ codes "3 refused Spent" ∷ codes "3 refused NoSuchCpu" ∷ [])

-- Memory is short while a sleeps: e waits for a worker, b and c of one queue and d of another one for their rescuers, c on
-- CPU 1; b is queued again as it runs. There is relief for a moment while d burns, and again at the end.
abbrev pub rescuers : ScenarioContents
rescuers =
    record
    (scenario 1000 (queue (codes "q") 2 plain_flags ∷ queue (codes "r") 2 mem_reclaim ∷ queue (codes "s") 1 mem_reclaim ∷ [])
    (work (codes "d") 2 (op.Burn 1 ∷ op.Finish ∷ []) ∷ work (codes "c") 1 (op.Finish ∷ [])
    ∷ work (codes "b") 1 (op.Sleep 2 ∷ op.Finish ∷ []) ∷ work (codes "a") 0 (op.Sleep 9 ∷ op.Finish ∷ [])
    ∷ work (codes "e") 0 (op.Finish ∷ []) ∷ [])
    (enqueue 1 0 ∷ times instr.Next 2 ∷ enqueue 3 0 ∷ times instr.Next 2 ∷ times instr.Pressure 1
    ∷ enqueue 4 0 ∷ enqueue 2 0 ∷ enqueue 0 0 ∷ enqueue 1 1 ∷ times instr.Next 1 ∷ enqueue 2 0 ∷ times instr.Next 1
    ∷ times (instr.Step 2) 1 ∷ times instr.Next 2 ∷ times instr.Relief 1 ∷ times (instr.Step 0) 1 ∷ times instr.Pressure 1
    ∷ cancel 4 ∷ times instr.Next 6 ∷ state 2 ∷ times instr.Next 6 ∷ state 1 ∷ times instr.Next 1 ∷ times instr.Relief 1
    ∷ enqueue 4 0 ∷ times instr.Next 1 ∷ state 4 ∷ []))
    { cpus = 2; workers = 2 }

-- c first starts on a worker, though a rescuer is free; then the rescuers take b and d, as they were queued; b starts again on
-- its rescuer, which c waits for on CPU 1; and while d burns nothing starts on its CPU
abbrev pub rescuers_lines : List ℕ
rescuers_lines =
    text_of_lines (
    codes "0 c starts" ∷ codes "0 c finishes" ∷ codes "0 a starts" ∷ codes "0 a sleeps 9" ∷
    codes "0 b starts on rescuer" ∷ codes "0 b sleeps 2" ∷ codes "0 refused NothingToDo" ∷
    codes "0 d starts on rescuer" ∷ codes "0 d burns 1" ∷ codes "0 refused NothingToDo" ∷ codes "0 cancelled" ∷
    codes "1 d finishes" ∷ codes "1 b defers" ∷ codes "2 b wakes" ∷ codes "2 b finishes and starts" ∷
    codes "2 b idle runs 0/rescuer" ∷ codes "2 b sleeps 2" ∷ codes "4 b wakes" ∷ codes "4 b finishes" ∷
    codes "4 c starts on rescuer" ∷ codes "4 c idle runs 2/rescuer" ∷ codes "4 c finishes" ∷ codes "4 e starts" ∷
    codes "4 e idle runs 0/1" ∷ [])

-- a on a normal queue, and b on one of high priority
abbrev pub timers_before_moves : ScenarioContents
timers_before_moves =
    scenario 1000 (queue (codes "n") 1 plain_flags ∷ queue (codes "h") 1 highpri ∷ [])
    (work (codes "a") 0 (op.Finish ∷ []) ∷ work (codes "b") 1 (op.Finish ∷ []) ∷ []) []

-- queue 2 and work 2 aren't declared, and there is one CPU: operands that no text can spell
abbrev pub undeclared_instrs : List Instr
undeclared_instrs =
    instr.SetMax (record { 0 = 2 }) 0 ∷ instr.Queue (record { 0 = 2 }) 1 ∷ instr.FlushQueue (record { 0 = 2 }) ∷ []

-- a timer runs out while b is listed; then it fires, and both are listed
abbrev pub unsettled_instrs : List Instr
unsettled_instrs =
    instr.Delay (record { 0 = 0 }) 0 1 ∷ instr.Tick ∷ instr.Queue (record { 0 = 1 }) 0 ∷ instr.Tick ∷ instr.Fire ∷ instr.Tick ∷ []

-- the start of that scenario, but a was disabled so many times
abbrev pub disabled_so_often : ℕ → State
disabled_so_often depth = record (start timers_before_moves) { depth = depth ∷ 0 ∷ [] }

-- the instructions that disable a, and enable it
abbrev pub disabled_again : Instr
disabled_again = instr.Disable (record { 0 = 0 })

abbrev pub enabled_again : Instr
enabled_again = instr.Enable (record { 0 = 0 })
