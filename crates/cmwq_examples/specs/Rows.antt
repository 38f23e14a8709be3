-- Worked examples: a scenario, its one actor's lines, and what the run prints.
use Rattle.std.specs.Prelude.{ℕ, List, [], ◌∷◌, ◌++◌, codes}
use Rattle.std.specs.List.{flat_map}
use Rattle.cmwq_types.specs.Contents.{ScenarioContents}
use Rattle.cmwq_types.specs.Scenario.{expand, plain_flags}
use Rattle.cmwq_types.specs.declared.instr.Instr.TheVariants as instr
use Rattle.cmwq_types.specs.declared.scenario.Line.{Line}
use Rattle.cmwq_types.specs.declared.scenario.Op.{Op}
use Rattle.cmwq_types.specs.declared.scenario.Op.TheVariants as op
use Rattle.cmwq_table.specs.Events.{events}
use Rattle.cmwq_examples.specs.Declare.{queue, work, highpri, unbound, cpu_intensive, freezable, ordered, mem_reclaim, queues, enqueue, delay, modify, cancel, cancel_sync, disable, enable, flush, flush_delayed, flush_queue, set_max_to, ask, state, times, scenario}
use Rattle.cmwq_types.specs.Listing.{text_of_lines}

-- what the scenario's actors print, one after another; here each scenario has one
abbrev pub printed : ScenarioContents → List ℕ
printed s = flat_map (λ actor. events s (expand actor)) s.actors

-- the kernel document's bodies: w0, and w1 and w2
abbrev pub twice_burning : List Op
twice_burning = op.Burn 5 ∷ op.Sleep 10 ∷ op.Burn 5 ∷ op.Finish ∷ []

abbrev pub once_burning : List Op
once_burning = op.Burn 5 ∷ op.Sleep 10 ∷ op.Finish ∷ []

-- Three works on one queue of the kernel document, of this `max_active`; then so many times `next`.
abbrev pub three_works : ℕ → ℕ → ScenarioContents
three_works max nexts =
    scenario 1000
    (queue (codes "q") max plain_flags ∷ [])
    (work (codes "w0") 0 twice_burning ∷ work (codes "w1") 0 once_burning ∷ work (codes "w2") 0 once_burning ∷ [])
    (enqueue 0 0 ∷ enqueue 1 0 ∷ enqueue 2 0 ∷ times instr.Next nexts ∷ [])

-- with `max_active` 3 all three are active at once: they take turns as they sleep
abbrev pub max_active_3 : List ℕ
max_active_3 =
    text_of_lines (
    codes "0 w0 starts" ∷ codes "0 w0 burns 5" ∷ codes "5 w0 sleeps 10" ∷ codes "5 w1 starts" ∷
    codes "5 w1 burns 5" ∷ codes "10 w1 sleeps 10" ∷ codes "10 w2 starts" ∷
    codes "10 w2 burns 5" ∷ codes "15 w2 sleeps 10" ∷ codes "15 w0 wakes" ∷
    codes "15 w0 burns 5" ∷ codes "20 w0 finishes" ∷
    codes "20 w1 wakes" ∷ codes "20 w1 finishes" ∷ codes "25 w2 wakes" ∷ codes "25 w2 finishes" ∷ [])

-- with `max_active` 2 the third is active once the first has finished
abbrev pub max_active_2 : List ℕ
max_active_2 =
    text_of_lines (
    codes "0 w0 starts" ∷ codes "0 w0 burns 5" ∷ codes "5 w0 sleeps 10" ∷ codes "5 w1 starts" ∷
    codes "5 w1 burns 5" ∷ codes "10 w1 sleeps 10" ∷ codes "15 w0 wakes" ∷
    codes "15 w0 burns 5" ∷ codes "20 w0 finishes" ∷ codes "20 w1 wakes" ∷
    codes "20 w1 finishes" ∷ codes "20 w2 starts" ∷ codes "20 w2 burns 5" ∷
    codes "25 w2 sleeps 10" ∷ codes "35 w2 wakes" ∷ codes "35 w2 finishes" ∷ [])

-- with `max_active` 1 they run one after another
abbrev pub max_active_1 : List ℕ
max_active_1 =
    text_of_lines (
    codes "0 w0 starts" ∷ codes "0 w0 burns 5" ∷ codes "5 w0 sleeps 10" ∷ codes "15 w0 wakes" ∷
    codes "15 w0 burns 5" ∷ codes "20 w0 finishes" ∷ codes "20 w1 starts" ∷
    codes "20 w1 burns 5" ∷ codes "25 w1 sleeps 10" ∷ codes "35 w1 wakes" ∷
    codes "35 w1 finishes" ∷ codes "35 w2 starts" ∷ codes "35 w2 burns 5" ∷
    codes "40 w2 sleeps 10" ∷ codes "50 w2 wakes" ∷ codes "50 w2 finishes" ∷ [])

-- w1 and w2 on a CPU-intensive queue of their own
abbrev pub cpu_intensive_beside_normal : ScenarioContents
cpu_intensive_beside_normal =
    scenario 1000
    (queue (codes "q") 1 plain_flags ∷ queue (codes "c") 2 cpu_intensive ∷ [])
    (work (codes "w0") 0 twice_burning ∷ work (codes "w1") 1 once_burning ∷ work (codes "w2") 1 once_burning ∷ [])
    (enqueue 0 0 ∷ enqueue 1 0 ∷ enqueue 2 0 ∷ times instr.Next 41 ∷ [])

-- w2 starts while w1 still burns, since a CPU-intensive work doesn't count
abbrev pub cpu_intensive_lines : List ℕ
cpu_intensive_lines =
    text_of_lines (
    codes "0 w0 starts" ∷ codes "0 w0 burns 5" ∷ codes "5 w0 sleeps 10" ∷ codes "5 w1 starts" ∷
    codes "5 w1 burns 5" ∷ codes "5 w2 starts" ∷ codes "10 w1 sleeps 10" ∷
    codes "10 w2 burns 5" ∷ codes "15 w2 sleeps 10" ∷ codes "15 w0 wakes" ∷
    codes "15 w0 burns 5" ∷ codes "20 w0 finishes" ∷ codes "20 w1 wakes" ∷
    codes "20 w1 finishes" ∷ codes "25 w2 wakes" ∷ codes "25 w2 finishes" ∷ [])

abbrev pub burning_body : ℕ → List Op
burning_body ticks = op.Burn ticks ∷ op.Finish ∷ []

-- a on a normal queue, and b a while later on one of high priority
abbrev pub high_beside_normal : ScenarioContents
high_beside_normal =
    scenario 1000
    (queue (codes "n") 1 plain_flags ∷ queue (codes "h") 1 highpri ∷ [])
    (work (codes "a") 0 (burning_body 2) ∷ work (codes "b") 1 (burning_body 2) ∷ [])
    (enqueue 0 0 ∷ times instr.Next 3 ∷ enqueue 1 0 ∷ times instr.Next 7 ∷ [])

-- b has the CPU from its start on, and a goes on when b has finished
abbrev pub high_lines : List ℕ
high_lines =
    text_of_lines (
    codes "0 a starts" ∷ codes "0 a burns 2" ∷ codes "1 b starts" ∷ codes "1 b burns 2" ∷
    codes "3 b finishes" ∷ codes "4 a finishes" ∷ [])

-- a and b on an unbound queue, c, d and e on an ordered one
abbrev pub unbound_beside_ordered : ScenarioContents
unbound_beside_ordered =
    scenario 1000
    (queue (codes "u") 2 unbound ∷ queue (codes "o") 1 ordered ∷ [])
    (work (codes "a") 0 (burning_body 2) ∷ work (codes "b") 0 (burning_body 2)
    ∷ work (codes "c") 1 (burning_body 1) ∷ work (codes "d") 1 (burning_body 1) ∷ work (codes "e") 1 (burning_body 1) ∷ [])
    (enqueue 0 0 ∷ enqueue 1 0 ∷ enqueue 2 0 ∷ enqueue 3 0 ∷ enqueue 4 0 ∷ times instr.Next 18 ∷ [])

-- a and b burn side by side; c, d and e run one at a time, in the order of their queueing
abbrev pub unbound_lines : List ℕ
unbound_lines =
    text_of_lines (
    codes "0 a starts" ∷ codes "0 a burns 2" ∷ codes "0 b starts" ∷ codes "0 b burns 2" ∷
    codes "0 c starts" ∷ codes "0 c burns 1" ∷ codes "1 c finishes" ∷ codes "1 d starts" ∷
    codes "1 d burns 1" ∷ codes "2 a finishes" ∷ codes "2 b finishes" ∷ codes "2 d finishes" ∷
    codes "2 e starts" ∷ codes "2 e burns 1" ∷ codes "3 e finishes" ∷ [])

-- the text of this scenario
abbrev pub written_out : List ℕ
written_out =
    text_of_lines (
    codes "cpus 1" ∷ codes "workers 4" ∷ codes "steps 1000" ∷ codes "flushes 2" ∷
    codes "queue u max 2 unbound" ∷ codes "queue o max 1 ordered" ∷
    codes "work a u" ∷ codes "work b u" ∷ codes "work c o" ∷ codes "work d o" ∷ codes "work e o" ∷
    codes "body a" ∷ codes "burn 2" ∷ codes "finish" ∷
    codes "body b" ∷ codes "burn 2" ∷ codes "finish" ∷
    codes "body c" ∷ codes "burn 1" ∷ codes "finish" ∷
    codes "body d" ∷ codes "burn 1" ∷ codes "finish" ∷
    codes "body e" ∷ codes "burn 1" ∷ codes "finish" ∷
    codes "actor t" ∷ codes "queue a 0" ∷ codes "queue b 0" ∷ codes "queue c 0" ∷ codes "queue d 0" ∷
    codes "queue e 0" ∷ codes "next * 18" ∷ [])

-- a work is queued twice before it starts
abbrev pub queued_twice : ScenarioContents
queued_twice =
    scenario 1000 (queue (codes "q") 1 plain_flags ∷ []) (work (codes "a") 0 (burning_body 1) ∷ [])
    (enqueue 0 0 ∷ enqueue 0 0 ∷ times instr.Next 4 ∷ [])

-- it runs once
abbrev pub queued_twice_lines : List ℕ
queued_twice_lines =
    text_of_lines (
    codes "0 already" ∷ codes "0 a starts" ∷ codes "0 a burns 1" ∷ codes "1 a finishes" ∷ [])

-- a work queues itself and then sleeps
abbrev pub queues_itself : ScenarioContents
queues_itself =
    scenario 1000 (queue (codes "q") 2 plain_flags ∷ [])
    (work (codes "a") 0 (queues 0 ∷ op.Sleep 2 ∷ op.Finish ∷ []) ∷ [])
    (enqueue 0 0 ∷ times instr.Next 8 ∷ [])

-- its second instance isn't started beside the first: it defers, and starts on the same worker
abbrev pub queues_itself_lines : List ℕ
queues_itself_lines =
    text_of_lines (
    codes "0 a starts" ∷ codes "0 a queues a" ∷ codes "0 a sleeps 2" ∷ codes "0 a defers" ∷
    codes "2 a wakes" ∷ codes "2 a finishes and starts" ∷ [])

-- a work that queues itself for ever, and eight steps; then a question
abbrev pub steps_run_out : ScenarioContents
steps_run_out =
    scenario 8 (queue (codes "q") 1 plain_flags ∷ [])
    (work (codes "a") 0 (queues 0 ∷ op.Finish ∷ []) ∷ [])
    (enqueue 0 0 ∷ times instr.Next 8 ∷ state 0 ∷ [])

-- the eighth `next` is one step too many; the question is answered all the same
abbrev pub steps_run_out_lines : List ℕ
steps_run_out_lines =
    text_of_lines (
    codes "0 a starts" ∷ codes "0 a queues a" ∷ codes "0 a finishes" ∷ codes "0 a starts" ∷
    codes "0 a queues a" ∷ codes "0 a finishes" ∷ codes "0 a starts" ∷ codes "0 refused Spent" ∷
    codes "0 a idle runs 0/0" ∷ [])

-- instructions that can't be carried out, among others that can
abbrev pub refused : ScenarioContents
refused =
    scenario 1000 (queue (codes "q") 1 plain_flags ∷ []) (work (codes "a") 0 (burning_body 1) ∷ [])
    (enqueue 0 1 ∷ enqueue 0 0 ∷ times instr.Tick 1 ∷ times (instr.Step 0) 1 ∷ times (instr.Step 0) 1
    ∷ times instr.Tick 1 ∷ times (instr.Step 0) 1 ∷ times (instr.Step 0) 1 ∷ times (instr.Step 4) 1 ∷ [])

abbrev pub refused_lines : List ℕ
refused_lines =
    text_of_lines (
    codes "0 refused NoSuchCpu" ∷ codes "0 refused Unsettled" ∷ codes "0 a starts" ∷
    codes "0 a burns 1" ∷ codes "1 a finishes" ∷ codes "1 refused NothingToDo" ∷
    codes "1 refused NoSuchPool" ∷ [])

-- one step, which the first instruction takes
abbrev pub refused_in_order : ScenarioContents
refused_in_order =
    scenario 1 (queue (codes "q") 1 plain_flags ∷ []) (work (codes "a") 0 (burning_body 1) ∷ [])
    (enqueue 0 0 ∷ enqueue 0 1 ∷ times (instr.Step 0) 1 ∷ times instr.Tick 1 ∷ times (instr.Step 1) 1
    ∷ times (instr.Step 4) 1 ∷ [])

-- CPU 1 and pool 4 aren't there; the tick would be unsettled, and pool 1 has nothing to do
abbrev pub refused_in_order_lines : List ℕ
refused_in_order_lines =
    text_of_lines (
    codes "0 refused NoSuchCpu" ∷ codes "0 refused Spent" ∷ codes "0 refused Spent" ∷
    codes "0 refused Spent" ∷ codes "0 refused NoSuchPool" ∷ [])

-- a delay of no ticks, a timer, a timer in place of a work that waits, and cancels
abbrev pub timers : ScenarioContents
timers =
    scenario 1000 (queue (codes "q") 1 plain_flags ∷ [])
    (work (codes "a") 0 (burning_body 1) ∷ work (codes "b") 0 (burning_body 1) ∷ [])
    (delay 0 0 ∷ delay 1 3 ∷ times instr.Fire 1 ∷ modify 0 2 ∷ state 0 ∷ cancel 1 ∷ cancel 1
    ∷ times instr.Next 7 ∷ [])

-- no timer has run out at first; a is on its timer until 2, and b's never fires
abbrev pub timers_lines : List ℕ
timers_lines =
    text_of_lines (
    codes "0 refused NothingToDo" ∷ codes "0 changed" ∷ codes "0 a timer 2 still" ∷
    codes "0 cancelled" ∷ codes "0 not pending" ∷ codes "2 a fires" ∷ codes "2 a starts" ∷
    codes "2 a burns 1" ∷ codes "3 a finishes" ∷ [])

-- a is queued again while it runs; flushes of a and of the queue, and then b is queued
abbrev pub flushes : ScenarioContents
flushes =
    scenario 1000 (queue (codes "q") 2 plain_flags ∷ [])
    (work (codes "a") 0 (burning_body 2) ∷ work (codes "b") 0 (burning_body 2) ∷ [])
    (enqueue 0 0 ∷ times instr.Next 2 ∷ enqueue 0 0 ∷ flush 0 ∷ flush_queue 0 ∷ enqueue 1 0 ∷ flush 1
    ∷ times instr.Next 3 ∷ ask 0 ∷ times instr.Next 1 ∷ ask 1 ∷ times instr.Next 4 ∷ ask 0 ∷ ask 1
    ∷ state 1 ∷ ask 2 ∷ [])

-- the first waits for the later instance of a, the second for both but not for b; a third isn't given
abbrev pub flushes_lines : List ℕ
flushes_lines =
    text_of_lines (
    codes "0 a starts" ∷ codes "0 a burns 2" ∷ codes "0 flush 0" ∷ codes "0 flush 1" ∷
    codes "0 refused TooManyFlushes" ∷ codes "2 a finishes" ∷ codes "2 no" ∷
    codes "2 a starts" ∷ codes "2 no" ∷ codes "2 a burns 2" ∷ codes "4 a finishes" ∷
    codes "4 yes" ∷ codes "4 yes" ∷ codes "4 b listed 0 still" ∷
    codes "4 refused NoSuchFlush" ∷ [])

-- a flush of a delayed work, and a cancel while the work runs and is pending again
abbrev pub cancelled_while_running : ScenarioContents
cancelled_while_running =
    scenario 1000 (queue (codes "q") 2 plain_flags ∷ []) (work (codes "a") 0 (burning_body 2) ∷ [])
    (delay 0 9 ∷ flush_delayed 0 ∷ state 0 ∷ times instr.Next 2 ∷ enqueue 0 0 ∷ cancel_sync 0 ∷ ask 1
    ∷ times instr.Next 3 ∷ ask 0 ∷ ask 1 ∷ cancel_sync 0 ∷ [])

-- the timer ends at once; the cancel takes off the pending instance, and its flush waits for the running one
abbrev pub cancelled_while_running_lines : List ℕ
cancelled_while_running_lines =
    text_of_lines (
    codes "0 flush 0" ∷ codes "0 a listed 0 still" ∷ codes "0 a starts" ∷ codes "0 a burns 2" ∷
    codes "0 cancelled flush 1" ∷ codes "0 no" ∷ codes "2 a finishes" ∷ codes "2 yes" ∷
    codes "2 yes" ∷ codes "2 refused TooManyFlushes" ∷ [])

-- a runs on CPU 0, and is queued on CPU 1
abbrev pub queued_elsewhere : ScenarioContents
queued_elsewhere =
    record
    (scenario 1000 (queue (codes "q") 2 plain_flags ∷ []) (work (codes "a") 0 (burning_body 2) ∷ [])
    (enqueue 0 0 ∷ times instr.Next 2 ∷ enqueue 0 1 ∷ state 0 ∷ []))
    { cpus = 2 }

-- it is listed in the pool where it runs
abbrev pub queued_elsewhere_lines : List ℕ
queued_elsewhere_lines =
    text_of_lines (
    codes "0 a starts" ∷ codes "0 a burns 2" ∷ codes "0 a listed 0 runs 0/0" ∷ [])

-- a runs and b is listed as the machine freezes; c is queued after it
abbrev pub freeze_and_thaw : ScenarioContents
freeze_and_thaw =
    scenario 1000 (queue (codes "f") 2 freezable ∷ [])
    (work (codes "a") 0 (burning_body 2) ∷ work (codes "b") 0 (burning_body 2) ∷ work (codes "c") 0 (burning_body 2) ∷ [])
    (enqueue 0 0 ∷ times instr.Next 2 ∷ enqueue 1 0 ∷ times instr.Freeze 1 ∷ times instr.Freeze 1
    ∷ enqueue 2 0 ∷ times instr.Busy 1 ∷ times instr.Next 8 ∷ times instr.Busy 1 ∷ times instr.Thaw 1
    ∷ times instr.Thaw 1 ∷ times instr.Next 5 ∷ [])

-- a goes on and b still starts; c starts after the thaw
abbrev pub freeze_and_thaw_lines : List ℕ
freeze_and_thaw_lines =
    text_of_lines (
    codes "0 a starts" ∷ codes "0 a burns 2" ∷ codes "0 refused AlreadyFrozen" ∷ codes "0 yes" ∷
    codes "2 a finishes" ∷ codes "2 b starts" ∷ codes "2 b burns 2" ∷ codes "4 b finishes" ∷
    codes "4 no" ∷ codes "4 refused NotFrozen" ∷ codes "4 c starts" ∷ codes "4 c burns 2" ∷
    codes "6 c finishes" ∷ [])

-- three works are active when max falls to 1, and a fourth is queued; then max rises to 4
abbrev pub max_down_and_up : ScenarioContents
max_down_and_up =
    scenario 1000 (queue (codes "q") 3 plain_flags ∷ queue (codes "o") 1 ordered ∷ [])
    (work (codes "a") 0 (burning_body 1) ∷ work (codes "b") 0 (burning_body 1) ∷ work (codes "c") 0 (burning_body 1)
    ∷ work (codes "d") 0 (burning_body 1) ∷ [])
    (set_max_to 1 2 ∷ set_max_to 0 0 ∷ enqueue 0 0 ∷ enqueue 1 0 ∷ enqueue 2 0 ∷ set_max_to 0 1 ∷ enqueue 3 0
    ∷ state 2 ∷ state 3 ∷ set_max_to 0 4 ∷ state 3 ∷ [])

-- c stays listed, d waits, and is listed once there is room
abbrev pub max_down_and_up_lines : List ℕ
max_down_and_up_lines =
    text_of_lines (
    codes "0 refused Ordered" ∷ codes "0 refused BadCount" ∷ codes "0 c listed 0 still" ∷
    codes "0 d inactive 0 still" ∷ codes "0 d listed 0 still" ∷ [])

-- max rises from 1 to 2: of the works that wait, the one that was queued first is activated
abbrev pub activated_in_order : ScenarioContents
activated_in_order =
    scenario 1000 (queue (codes "q") 1 plain_flags ∷ [])
    (work (codes "a") 0 (burning_body 1) ∷ work (codes "b") 0 (burning_body 1) ∷ work (codes "c") 0 (burning_body 1) ∷ [])
    (enqueue 2 0 ∷ enqueue 1 0 ∷ enqueue 0 0 ∷ set_max_to 0 2 ∷ state 0 ∷ state 1 ∷ state 2 ∷ [])

abbrev pub activated_in_order_lines : List ℕ
activated_in_order_lines =
    text_of_lines (codes "0 a inactive 0 still" ∷ codes "0 b listed 0 still" ∷ codes "0 c listed 0 still" ∷ [])

-- a is queued and disabled twice; then b's body is to queue it, and it is enabled
abbrev pub disabled_twice : ScenarioContents
disabled_twice =
    scenario 1000 (queue (codes "q") 1 plain_flags ∷ [])
    (work (codes "a") 0 (burning_body 1) ∷ work (codes "b") 0 (queues 0 ∷ op.Finish ∷ []) ∷ [])
    (enqueue 0 0 ∷ disable 0 ∷ disable 0 ∷ enqueue 0 0 ∷ modify 0 2 ∷ enqueue 1 0 ∷ times instr.Next 3
    ∷ enable 0 ∷ enable 0 ∷ enable 0 ∷ enqueue 0 0 ∷ times instr.Next 4 ∷ [])

-- the first disable takes it off; nothing queues it until it was enabled twice
abbrev pub disabled_twice_lines : List ℕ
disabled_twice_lines =
    text_of_lines (
    codes "0 cancelled" ∷ codes "0 not pending" ∷ codes "0 refused Disabled" ∷ codes "0 refused Disabled" ∷
    codes "0 b starts" ∷ codes "0 b queues a disabled" ∷ codes "0 b finishes" ∷ codes "0 no" ∷ codes "0 yes" ∷
    codes "0 refused NotDisabled" ∷ codes "0 a starts" ∷ codes "0 a burns 1" ∷ codes "1 a finishes" ∷ [])

-- a sleeps; then c of the same queue and b of a queue with a rescuer are queued
abbrev pub sleeper_and_two : List Line → ScenarioContents
sleeper_and_two lines =
    scenario 1000 (queue (codes "q") 2 plain_flags ∷ queue (codes "r") 2 mem_reclaim ∷ [])
    (work (codes "a") 0 (op.Sleep 3 ∷ op.Finish ∷ []) ∷ work (codes "b") 1 (burning_body 1) ∷ work (codes "c") 0 (burning_body 1) ∷ [])
    lines

-- memory is short meanwhile
abbrev pub pressed : ScenarioContents
pressed =
    sleeper_and_two
    (enqueue 0 0 ∷ times instr.Next 2 ∷ times instr.Pressure 1 ∷ times instr.Pressure 1 ∷ enqueue 2 0 ∷ enqueue 1 0
    ∷ times instr.Next 1 ∷ state 1 ∷ times instr.Next 3 ∷ times instr.Next 1 ∷ times instr.Relief 1 ∷ times instr.Relief 1
    ∷ times instr.Next 1 ∷ state 2 ∷ times instr.Next 3 ∷ [])

-- no worker is made for c; b goes past it on the rescuer, and c starts on a new worker after the relief
abbrev pub pressed_lines : List ℕ
pressed_lines =
    text_of_lines (
    codes "0 a starts" ∷ codes "0 a sleeps 3" ∷ codes "0 refused AlreadyPressed" ∷ codes "0 b starts on rescuer" ∷
    codes "0 b idle runs 0/rescuer" ∷ codes "0 b burns 1" ∷ codes "1 b finishes" ∷ codes "2 refused NotPressed" ∷
    codes "2 c starts" ∷ codes "2 c idle runs 0/1" ∷ codes "2 c burns 1" ∷ codes "3 c finishes" ∷ [])

-- the pool's one worker sleeps
abbrev pub all_workers_taken : ScenarioContents
all_workers_taken =
    record
    (sleeper_and_two
    (enqueue 0 0 ∷ times instr.Next 2 ∷ enqueue 2 0 ∷ enqueue 1 0 ∷ times instr.Next 1 ∷ state 1 ∷ times instr.Next 3
    ∷ times instr.Next 2 ∷ state 2 ∷ times instr.Next 3 ∷ []))
    { workers = 1 }

-- b goes past c on the rescuer, and c waits for the worker
abbrev pub all_workers_taken_lines : List ℕ
all_workers_taken_lines =
    text_of_lines (
    codes "0 a starts" ∷ codes "0 a sleeps 3" ∷ codes "0 b starts on rescuer" ∷ codes "0 b idle runs 0/rescuer" ∷
    codes "0 b burns 1" ∷ codes "1 b finishes" ∷ codes "3 c listed 0 still" ∷ codes "3 a wakes" ∷
    codes "3 a finishes" ∷ codes "3 c starts" ∷ [])
