-- Worked examples of until, wait and quiet.
use Rattle.std.specs.Prelude.{ℕ, List, [], ◌∷◌, codes}
use Rattle.cmwq_types.specs.Contents.{ScenarioContents}
use Rattle.cmwq_types.specs.Listing.{text_of_lines}
use Rattle.cmwq_types.specs.Scenario.{plain_flags}
use Rattle.cmwq_types.specs.declared.instr.Instr.TheVariants as instr
use Rattle.cmwq_types.specs.declared.scenario.Op.TheVariants as op
use Rattle.cmwq_examples.specs.Declare.{queue, work, enqueue, delay, flush, ask, state, times, scenario}

-- a's timer runs out at 3, and the actor goes on until 5, with moves enough; ten steps are nine moves and the delay
abbrev pub until_a_time : ScenarioContents
until_a_time =
    scenario 10 (queue (codes "q") 1 plain_flags ∷ [])
    (work (codes "a") 0 (op.Burn 1 ∷ op.Finish ∷ []) ∷ [])
    (delay 0 3 ∷ times (instr.Until 5) 20 ∷ state 0 ∷ enqueue 0 0 ∷ [])

-- the time is 5 then, and what did nothing wasn't spent
abbrev pub until_a_time_lines : List ℕ
until_a_time_lines =
    text_of_lines (
    codes "3 a fires" ∷ codes "3 a starts" ∷ codes "3 a burns 1" ∷ codes "4 a finishes" ∷ codes "5 a idle still" ∷
    codes "5 refused Spent" ∷ [])

-- b sleeps behind a, and the actor waits for the flush of b alone; fifteen steps are eleven moves and four lines
abbrev pub wait_for_a_flush : ScenarioContents
wait_for_a_flush =
    scenario 15 (queue (codes "q") 2 plain_flags ∷ [])
    (work (codes "a") 0 (op.Burn 1 ∷ op.Finish ∷ []) ∷ work (codes "b") 0 (op.Sleep 3 ∷ op.Finish ∷ []) ∷ [])
    (enqueue 0 0 ∷ enqueue 1 0 ∷ flush 0 ∷ flush 1 ∷ times (instr.Wait 1) 20 ∷ times (instr.Wait 0) 1 ∷ ask 1 ∷ enqueue 0 0 ∷ [])

-- it goes on where the flush of a is done, and ends where that of b is
abbrev pub wait_for_a_flush_lines : List ℕ
wait_for_a_flush_lines =
    text_of_lines (
    codes "0 flush 0" ∷ codes "0 flush 1" ∷ codes "0 a starts" ∷ codes "0 a burns 1" ∷ codes "1 a finishes" ∷
    codes "1 b starts" ∷ codes "1 b sleeps 3" ∷ codes "4 b wakes" ∷ codes "4 b finishes" ∷ codes "4 yes" ∷
    codes "4 refused Spent" ∷ [])

-- b is over at once, and a's timer runs until 4; eleven steps are nine moves and two lines
abbrev pub quiet_behind_a_timer : ScenarioContents
quiet_behind_a_timer =
    scenario 11 (queue (codes "q") 1 plain_flags ∷ [])
    (work (codes "a") 0 (op.Finish ∷ []) ∷ work (codes "b") 0 (op.Finish ∷ []) ∷ [])
    (delay 0 4 ∷ enqueue 1 0 ∷ times instr.Quiet 20 ∷ state 0 ∷ enqueue 0 0 ∷ [])

-- a machine isn't quiet while a timer runs
abbrev pub quiet_behind_a_timer_lines : List ℕ
quiet_behind_a_timer_lines =
    text_of_lines (
    codes "0 b starts" ∷ codes "0 b finishes" ∷ codes "4 a fires" ∷ codes "4 a starts" ∷ codes "4 a finishes" ∷
    codes "4 a idle still" ∷ codes "4 refused Spent" ∷ [])

-- none of the three has what it goes on for when its moves are over
abbrev pub too_few_moves : ScenarioContents
too_few_moves =
    scenario 1000 (queue (codes "q") 1 plain_flags ∷ [])
    (work (codes "a") 0 (op.Sleep 5 ∷ op.Finish ∷ []) ∷ [])
    (enqueue 0 0 ∷ flush 0 ∷ times (instr.Wait 0) 2 ∷ ask 0 ∷ times (instr.Until 5) 2 ∷ state 0 ∷ times instr.Quiet 1 ∷ state 0
    ∷ times instr.Next 3 ∷ [])

-- each was as many next
abbrev pub too_few_moves_lines : List ℕ
too_few_moves_lines =
    text_of_lines (
    codes "0 flush 0" ∷ codes "0 a starts" ∷ codes "0 a sleeps 5" ∷ codes "0 no" ∷ codes "2 a idle asleep 0/0 5" ∷
    codes "3 a idle asleep 0/0 5" ∷ codes "5 a wakes" ∷ [])

-- one step, and one tick that spends it; a flush that was never given
abbrev pub free_when_met : ScenarioContents
free_when_met =
    scenario 1 (queue (codes "q") 1 plain_flags ∷ [])
    (work (codes "a") 0 (op.Finish ∷ []) ∷ [])
    (times (instr.Wait 0) 1 ∷ times (instr.Until 0) 2 ∷ times instr.Quiet 2 ∷ times instr.Tick 1 ∷ times (instr.Until 2) 1 ∷ times (instr.Until 1) 1
    ∷ times (instr.Until 0) 1 ∷ times (instr.Wait 1) 1 ∷ times instr.Quiet 1 ∷ state 0 ∷ [])

-- what has come is done at no cost, spent steps or not; what hasn't is refused as next is
abbrev pub free_when_met_lines : List ℕ
free_when_met_lines =
    text_of_lines (
    codes "0 refused NoSuchFlush" ∷ codes "1 refused Spent" ∷ codes "1 refused NoSuchFlush" ∷ codes "1 a idle still" ∷ [])
