-- Worked examples: small scenarios, and all that is told of their runs.
use Rattle.std.specs.Prelude.{ℕ, List, [], ◌∷◌, codes}
use Rattle.std.specs.List.{flat_map}
use Rattle.cmwq_types.specs.Contents.{ScenarioContents}
use Rattle.cmwq_types.specs.Scenario.{expand, plain_flags}
use Rattle.cmwq_types.specs.declared.instr.Instr.TheVariants as instr
use Rattle.cmwq_types.specs.declared.scenario.Op.TheVariants as op
use Rattle.cmwq_examples.specs.Declare.{queue, work, freezable, mem_reclaim, queues, enqueue, delay, delay_on, cancel, disable, flush, flush_queue, times, scenario}
use Rattle.cmwq_types.specs.Listing.{text_of_lines}
use Rattle.cmwq_tell.specs.RunTold.{tell_text}

-- all that is told of the scenario's actors, one after another; here each scenario has one
abbrev pub told_of : ScenarioContents → List ℕ
told_of S = flat_map (λ actor. tell_text S (expand actor)) S.actors

-- memory is short, and the machine frozen: x has no worker, y a rescuer, and z a freezable queue; then memory isn't short, and the thaw comes
abbrev pub outside_scenario : ScenarioContents
outside_scenario =
    record (scenario 100 (queue (codes "q") 1 plain_flags ∷ queue (codes "r") 1 mem_reclaim ∷ queue (codes "f") 1 freezable ∷ [])
    (work (codes "x") 0 (op.Burn 1 ∷ op.Finish ∷ []) ∷ work (codes "y") 1 (op.Burn 1 ∷ op.Finish ∷ [])
    ∷ work (codes "z") 2 (op.Burn 1 ∷ op.Finish ∷ []) ∷ [])
    (times instr.Pressure 1 ∷ times instr.Freeze 1 ∷ enqueue 0 0 ∷ enqueue 1 0 ∷ enqueue 2 0 ∷ flush 0 ∷ flush_queue 2 ∷ times instr.Next 4
    ∷ times instr.Relief 1 ∷ times instr.Next 4 ∷ times instr.Thaw 1 ∷ times instr.Next 4 ∷ [])) { workers = 2 }

-- y starts on its rescuer, x after the relief, and the thaw activates z
abbrev pub outside_told : List ℕ
outside_told =
    text_of_lines (
    codes "# 0 pressure" ∷ codes "# 1 freeze" ∷ codes "# 2 queue x 0" ∷ codes "#   x listed 0" ∷ codes "# 3 queue y 0" ∷
    codes "#   y listed 0" ∷ codes "# 4 queue z 0" ∷ codes "#   z inactive 0" ∷ codes "# 5 flush x" ∷ codes "0 flush 0" ∷
    codes "# 6 flush_queue f" ∷ codes "0 flush 1" ∷ codes "# 7 next" ∷ codes "0 y starts on rescuer" ∷ codes "#   y runs 0/rescuer" ∷ codes "# 8 next" ∷
    codes "0 y burns 1" ∷ codes "# 9 next" ∷ codes "#   now 1" ∷ codes "# 10 next" ∷ codes "1 y finishes" ∷
    codes "# 11 relief" ∷ codes "# 12 next" ∷ codes "1 x starts" ∷ codes "#   x runs 0/0" ∷ codes "# 13 next" ∷ codes "1 x burns 1" ∷ codes "# 14 next" ∷
    codes "#   now 2" ∷ codes "# 15 next" ∷ codes "2 x finishes" ∷ codes "# 16 thaw" ∷ codes "#   z activated 0" ∷
    codes "# 17 next" ∷ codes "2 z starts" ∷ codes "#   z runs 0/0" ∷ codes "# 18 next" ∷ codes "2 z burns 1" ∷ codes "# 19 next" ∷ codes "#   now 3" ∷
    codes "# 20 next" ∷ codes "3 z finishes" ∷ [])

-- with one worker, a queues itself and sleeps, and b waits beside it; then a is cancelled, delayed and disabled
abbrev pub again_scenario : ScenarioContents
again_scenario =
    record (scenario 100 (queue (codes "q") 2 plain_flags ∷ [])
    (work (codes "a") 0 (queues 0 ∷ op.Sleep 2 ∷ op.Finish ∷ []) ∷ work (codes "b") 0 (op.Burn 1 ∷ op.Finish ∷ []) ∷ [])
    (enqueue 0 0 ∷ times instr.Next 2 ∷ enqueue 1 0 ∷ flush 0 ∷ times instr.Next 7 ∷ cancel 0 ∷ delay 0 2 ∷ times instr.Next 9
    ∷ disable 0 ∷ [])) { workers = 1; flushes = 1 }

-- what finishes lets in the one that waits, a delay sets a timer, and what the timer places has no room
abbrev pub again_told : List ℕ
again_told =
    text_of_lines (
    codes "# 0 queue a 0" ∷ codes "#   a listed 0" ∷ codes "# 1 next" ∷ codes "0 a starts" ∷ codes "#   a runs 0/0" ∷ codes "# 2 next" ∷
    codes "0 a queues a" ∷ codes "#   a listed 0" ∷ codes "# 3 queue b 0" ∷ codes "#   b inactive 0" ∷
    codes "# 4 flush a" ∷ codes "0 flush 0" ∷ codes "# 5 next" ∷ codes "0 a sleeps 2" ∷ codes "# 6 next" ∷
    codes "0 a defers" ∷ codes "# 7 next" ∷ codes "#   now 1" ∷ codes "# 8 next" ∷ codes "#   now 2" ∷ codes "# 9 next" ∷
    codes "2 a wakes" ∷ codes "# 10 next" ∷ codes "2 a finishes and starts" ∷ codes "#   a runs 0/0" ∷ codes "#   b activated 0" ∷
    codes "# 11 next" ∷ codes "2 a queues a" ∷ codes "#   a inactive 0" ∷ codes "# 12 cancel a" ∷ codes "2 cancelled" ∷
    codes "# 13 delay a 0 2" ∷ codes "#   a timer 4 cpu 0" ∷ codes "# 14 next" ∷ codes "2 a sleeps 2" ∷ codes "# 15 next" ∷
    codes "#   now 3" ∷ codes "# 16 next" ∷ codes "#   now 4" ∷ codes "# 17 next" ∷ codes "4 a fires" ∷
    codes "#   a inactive 0" ∷ codes "# 18 next" ∷ codes "4 a wakes" ∷ codes "# 19 next" ∷ codes "4 a finishes" ∷
    codes "#   a activated 0" ∷ codes "# 20 next" ∷ codes "4 b starts" ∷ codes "#   b runs 0/0" ∷ codes "# 21 next" ∷ codes "4 b burns 1" ∷
    codes "# 22 next" ∷ codes "#   now 5" ∷ codes "# 23 disable a" ∷ codes "5 cancelled" ∷ [])

-- on the second CPU b waits behind a, which is cancelled; c gets a timer there
abbrev pub second_cpu : ScenarioContents
second_cpu =
    record (scenario 100 (queue (codes "q") 1 plain_flags ∷ [])
    (work (codes "a") 0 (op.Finish ∷ []) ∷ work (codes "b") 0 (op.Finish ∷ []) ∷ work (codes "c") 0 (op.Finish ∷ []) ∷ [])
    (enqueue 0 1 ∷ enqueue 1 1 ∷ cancel 0 ∷ delay_on 2 1 5 ∷ [])) { cpus = 2 }

-- all is told of its normal pool, whose number is 2, and of its number
abbrev pub second_cpu_told : List ℕ
second_cpu_told =
    text_of_lines (
    codes "# 0 queue a 1" ∷ codes "#   a listed 2" ∷ codes "# 1 queue b 1" ∷ codes "#   b inactive 2" ∷ codes "# 2 cancel a" ∷
    codes "0 cancelled" ∷ codes "#   b activated 2" ∷ codes "# 3 delay c 1 5" ∷ codes "#   c timer 5 cpu 1" ∷ [])

-- a burns for a tick while its actor goes on until nothing is left; then all that the actor goes on for has come, but for a flush that there isn't and
-- for a time that is to come
abbrev pub come_scenario : ScenarioContents
come_scenario =
    scenario 100 (queue (codes "q") 1 plain_flags ∷ []) (work (codes "a") 0 (op.Burn 1 ∷ op.Finish ∷ []) ∷ [])
    (enqueue 0 0 ∷ flush 0 ∷ times instr.Quiet 6 ∷ times instr.Quiet 1 ∷ times (instr.Until 1) 2 ∷ times (instr.Until 0) 1 ∷ times (instr.Wait 0) 3
    ∷ times (instr.Wait 1) 2 ∷ times instr.Quiet 1 ∷ times (instr.Until 2) 3 ∷ [])

-- Equal ones in a row that have come have one line, also over two lines of the actor. One alone has its own line, and so has each that is refused.
abbrev pub come_told : List ℕ
come_told =
    text_of_lines (
    codes "# 0 queue a 0" ∷ codes "#   a listed 0" ∷ codes "# 1 flush a" ∷ codes "0 flush 0" ∷ codes "# 2 quiet" ∷ codes "0 a starts" ∷
    codes "#   a runs 0/0" ∷ codes "# 3 quiet" ∷ codes "0 a burns 1" ∷ codes "# 4 quiet" ∷ codes "#   now 1" ∷ codes "# 5 quiet" ∷
    codes "1 a finishes" ∷ codes "# 6 to 8 quiet: nothing is pending or runs" ∷ codes "# 9 to 10 until 1: it is 1 or later" ∷ codes "# 11 until 0" ∷
    codes "# 12 to 14 wait 0: flush 0 is done" ∷ codes "# 15 wait 1" ∷ codes "1 refused NoSuchFlush" ∷ codes "# 16 wait 1" ∷
    codes "1 refused NoSuchFlush" ∷ codes "# 17 quiet" ∷ codes "# 18 until 2" ∷ codes "#   now 2" ∷ codes "# 19 to 20 until 2: it is 2 or later" ∷ [])
