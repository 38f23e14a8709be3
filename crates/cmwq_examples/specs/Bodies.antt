-- Worked examples of bodies that delay, mod and cancel works.
use Rattle.std.specs.Prelude.{ℕ, List, [], ◌∷◌, codes}
use Rattle.cmwq_types.specs.Contents.{ScenarioContents}
use Rattle.cmwq_types.specs.Listing.{text_of_lines}
use Rattle.cmwq_types.specs.Scenario.{plain_flags}
use Rattle.cmwq_types.specs.declared.instr.Instr.TheVariants as instr
use Rattle.cmwq_types.specs.declared.scenario.Op.TheVariants as op
use Rattle.cmwq_examples.specs.Declare.{queue, work, unbound, delays, mods, cancels, enqueue, delay, cancel, cancel_sync, disable, enable, flush, flush_queue, ask, state, times, scenario}

-- a polls every other tick, and arms itself in its own body
abbrev pub poll : ScenarioContents
poll =
    scenario 1000 (queue (codes "q") 1 plain_flags ∷ [])
    (work (codes "a") 0 (delays 0 2 ∷ op.Finish ∷ []) ∷ [])
    (enqueue 0 0 ∷ times (instr.Until 3) 20 ∷ disable 0 ∷ flush 0 ∷ times (instr.Wait 0) 20 ∷ enable 0 ∷ times instr.Quiet 40 ∷ state 0 ∷ [])

-- disabled, flushed and enabled, it polls no more
abbrev pub poll_lines : List ℕ
poll_lines =
    text_of_lines (
    codes "0 a starts" ∷ codes "0 a delays a 2" ∷ codes "0 a finishes" ∷ codes "2 a fires" ∷ codes "2 a starts" ∷
    codes "2 a delays a 2" ∷ codes "2 a finishes" ∷ codes "3 cancelled" ∷ codes "3 flush 0" ∷ codes "3 yes" ∷
    codes "3 a idle still" ∷ [])

-- a sleeps before it arms itself, and is cancelled while it sleeps
abbrev pub poll_cancelled : ScenarioContents
poll_cancelled =
    scenario 1000 (queue (codes "q") 1 plain_flags ∷ [])
    (work (codes "a") 0 (op.Sleep 1 ∷ delays 0 2 ∷ op.Finish ∷ []) ∷ [])
    (enqueue 0 0 ∷ times instr.Next 2 ∷ cancel_sync 0 ∷ times (instr.Wait 0) 20 ∷ state 0 ∷ disable 0 ∷ flush 0 ∷ times (instr.Wait 1) 20 ∷ enable 0 ∷ times instr.Quiet 40 ∷ state 0 ∷ [])

-- the flush of the cancel is done, and a waits on a timer; disabling ends it
abbrev pub poll_cancelled_lines : List ℕ
poll_cancelled_lines =
    text_of_lines (
    codes "0 a starts" ∷ codes "0 a sleeps 1" ∷ codes "0 not pending flush 0" ∷ codes "1 a wakes" ∷
    codes "1 a delays a 2" ∷ codes "1 a finishes" ∷ codes "1 a timer 3 still" ∷ codes "1 cancelled" ∷ codes "1 flush 1" ∷
    codes "1 yes" ∷ codes "1 a idle still" ∷ [])

-- i, an interrupt's work, comes at 0, 1 and 2, and h handles what has come
abbrev pub debounce : ScenarioContents
debounce =
    scenario 1000 (queue (codes "q") 1 plain_flags ∷ [])
    (work (codes "i") 0 (mods 1 3 ∷ op.Finish ∷ []) ∷ work (codes "h") 0 (op.Burn 1 ∷ op.Finish ∷ []) ∷ [])
    (enqueue 0 0 ∷ times (instr.Until 1) 20 ∷ enqueue 0 0 ∷ times (instr.Until 2) 20 ∷ enqueue 0 0 ∷ times instr.Quiet 40 ∷ [])

-- the handler runs three ticks behind the last of them
abbrev pub debounce_lines : List ℕ
debounce_lines =
    text_of_lines (
    codes "0 i starts" ∷ codes "0 i mods h 3" ∷ codes "0 i finishes" ∷ codes "1 i starts" ∷
    codes "1 i mods h 3 changed" ∷ codes "1 i finishes" ∷ codes "2 i starts" ∷ codes "2 i mods h 3 changed" ∷
    codes "2 i finishes" ∷ codes "5 h fires" ∷ codes "5 h starts" ∷ codes "5 h burns 1" ∷ codes "6 h finishes" ∷ [])

-- f feeds the watchdog w every other tick, until it is cancelled at 3
abbrev pub watchdog : ScenarioContents
watchdog =
    scenario 1000 (queue (codes "q") 1 plain_flags ∷ [])
    (work (codes "f") 0 (mods 1 3 ∷ delays 0 2 ∷ op.Finish ∷ []) ∷ work (codes "w") 0 (op.Finish ∷ []) ∷ [])
    (enqueue 0 0 ∷ times (instr.Until 3) 20 ∷ cancel 0 ∷ times instr.Quiet 40 ∷ [])

-- w's timer runs from when it was fed last
abbrev pub watchdog_lines : List ℕ
watchdog_lines =
    text_of_lines (
    codes "0 f starts" ∷ codes "0 f mods w 3" ∷ codes "0 f delays f 2" ∷ codes "0 f finishes" ∷ codes "2 f fires" ∷
    codes "2 f starts" ∷ codes "2 f mods w 3 changed" ∷ codes "2 f delays f 2" ∷ codes "2 f finishes" ∷
    codes "3 cancelled" ∷ codes "5 w fires" ∷ codes "5 w starts" ∷ codes "5 w finishes" ∷ [])

-- a cancels b twice, which waits on a timer
abbrev pub timer_cancelled : ScenarioContents
timer_cancelled =
    scenario 1000 (queue (codes "q") 1 plain_flags ∷ [])
    (work (codes "a") 0 (cancels 1 ∷ cancels 1 ∷ op.Finish ∷ []) ∷ work (codes "b") 0 (op.Finish ∷ []) ∷ [])
    (delay 1 5 ∷ enqueue 0 0 ∷ times instr.Quiet 40 ∷ state 1 ∷ [])

-- b never runs
abbrev pub timer_cancelled_lines : List ℕ
timer_cancelled_lines =
    text_of_lines (
    codes "0 a starts" ∷ codes "0 a cancels b" ∷ codes "0 a cancels b not pending" ∷ codes "0 a finishes" ∷
    codes "0 b idle still" ∷ [])

-- b and c share a queue with one place, and a cancels b
abbrev pub room_cancelled : ScenarioContents
room_cancelled =
    scenario 1000 (queue (codes "q") 1 plain_flags ∷ queue (codes "r") 1 plain_flags ∷ [])
    (work (codes "a") 0 (cancels 1 ∷ op.Finish ∷ []) ∷ work (codes "b") 1 (op.Finish ∷ []) ∷ work (codes "c") 1 (op.Finish ∷ []) ∷ [])
    (enqueue 0 0 ∷ enqueue 1 0 ∷ enqueue 2 0 ∷ state 2 ∷ times instr.Next 2 ∷ state 2 ∷ times instr.Quiet 40 ∷ [])

-- c has b's place at once
abbrev pub room_cancelled_lines : List ℕ
room_cancelled_lines =
    text_of_lines (
    codes "0 c inactive 0 still" ∷ codes "0 a starts" ∷ codes "0 a cancels b" ∷ codes "0 c listed 0 still" ∷
    codes "0 a finishes" ∷ codes "0 c starts" ∷ codes "0 c finishes" ∷ [])

-- a sets b's timer to 4, and the actor goes on until 5
abbrev pub until_behind_a_body : ScenarioContents
until_behind_a_body =
    scenario 1000 (queue (codes "q") 1 plain_flags ∷ [])
    (work (codes "a") 0 (delays 1 4 ∷ op.Finish ∷ []) ∷ work (codes "b") 0 (op.Burn 2 ∷ op.Finish ∷ []) ∷ [])
    (enqueue 0 0 ∷ times (instr.Until 5) 20 ∷ state 1 ∷ times instr.Quiet 40 ∷ [])

-- at 5 b still burns
abbrev pub until_behind_a_body_lines : List ℕ
until_behind_a_body_lines =
    text_of_lines (
    codes "0 a starts" ∷ codes "0 a delays b 4" ∷ codes "0 a finishes" ∷ codes "4 b fires" ∷ codes "4 b starts" ∷
    codes "4 b burns 2" ∷ codes "5 b idle runs 0/0" ∷ codes "6 b finishes" ∷ [])

-- a delays and mods b by no ticks
abbrev pub after_no_ticks : ScenarioContents
after_no_ticks =
    scenario 1000 (queue (codes "q") 2 plain_flags ∷ [])
    (work (codes "a") 0 (delays 1 0 ∷ mods 1 0 ∷ delays 1 3 ∷ op.Finish ∷ []) ∷ work (codes "b") 0 (op.Finish ∷ []) ∷ [])
    (enqueue 0 0 ∷ times instr.Quiet 40 ∷ [])

-- b starts behind a, without a timer
abbrev pub after_no_ticks_lines : List ℕ
after_no_ticks_lines =
    text_of_lines (
    codes "0 a starts" ∷ codes "0 a delays b 0" ∷ codes "0 a mods b 0 changed" ∷ codes "0 a delays b 3 already" ∷
    codes "0 a finishes" ∷ codes "0 b starts" ∷ codes "0 b finishes" ∷ [])

-- b is disabled, and a tries each of the three
abbrev pub disabled : ScenarioContents
disabled =
    scenario 1000 (queue (codes "q") 1 plain_flags ∷ [])
    (work (codes "a") 0 (delays 1 1 ∷ mods 1 1 ∷ cancels 1 ∷ op.Finish ∷ []) ∷ work (codes "b") 0 (op.Finish ∷ []) ∷ [])
    (disable 1 ∷ enqueue 0 0 ∷ times instr.Quiet 40 ∷ state 1 ∷ [])

-- none of them does anything
abbrev pub disabled_lines : List ℕ
disabled_lines =
    text_of_lines (
    codes "0 not pending" ∷ codes "0 a starts" ∷ codes "0 a delays b 1 disabled" ∷ codes "0 a mods b 1 disabled" ∷
    codes "0 a cancels b not pending" ∷ codes "0 a finishes" ∷ codes "0 b idle still" ∷ [])

-- of two CPUs, a runs on CPU 1, and b in the unbound pool
abbrev pub on_their_cpu : ScenarioContents
on_their_cpu =
    record (scenario 1000 (queue (codes "q") 4 plain_flags ∷ queue (codes "u") 4 unbound ∷ [])
    (work (codes "a") 0 (delays 2 0 ∷ mods 3 2 ∷ op.Finish ∷ []) ∷ work (codes "b") 1 (delays 4 0 ∷ op.Finish ∷ []) ∷ work (codes "c") 0 (op.Finish ∷ []) ∷ work (codes "d") 0 (op.Finish ∷ []) ∷ work (codes "e") 0 (op.Finish ∷ []) ∷ [])
    (enqueue 0 1 ∷ times instr.Next 3 ∷ state 2 ∷ times (instr.Until 2) 20 ∷ times instr.Next 1 ∷ state 3 ∷ enqueue 1 1 ∷ times instr.Next 4 ∷ state 4 ∷ times instr.Quiet 40 ∷ [])) { cpus = 2 }

-- c and d come to the pool of CPU 1, and e to that of CPU 0
abbrev pub on_their_cpu_lines : List ℕ
on_their_cpu_lines =
    text_of_lines (
    codes "0 a starts" ∷ codes "0 a delays c 0" ∷ codes "0 a mods d 2" ∷ codes "0 c listed 2 still" ∷
    codes "0 a finishes" ∷ codes "0 c starts" ∷ codes "0 c finishes" ∷ codes "2 d fires" ∷ codes "2 d listed 2 still" ∷
    codes "2 d starts" ∷ codes "2 d finishes" ∷ codes "2 b starts" ∷ codes "2 b delays e 0" ∷
    codes "2 e listed 0 still" ∷ codes "2 e starts" ∷ codes "2 e finishes" ∷ codes "2 b finishes" ∷ [])

-- while it runs, a is pending itself, and then disabled
abbrev pub finds_others : ScenarioContents
finds_others =
    scenario 1000 (queue (codes "q") 2 plain_flags ∷ [])
    (work (codes "a") 0 (op.Sleep 2 ∷ cancels 1 ∷ delays 1 4 ∷ cancels 1 ∷ mods 1 4 ∷ cancels 1 ∷ delays 1 4 ∷ mods 1 1 ∷ op.Finish ∷ []) ∷ work (codes "b") 0 (op.Finish ∷ []) ∷ [])
    (enqueue 0 0 ∷ times instr.Next 2 ∷ enqueue 0 0 ∷ times instr.Next 1 ∷ times (instr.Until 2) 20 ∷ times instr.Next 5 ∷ disable 0 ∷ times instr.Quiet 40 ∷ [])

-- b is neither until a makes it pending
abbrev pub finds_others_lines : List ℕ
finds_others_lines =
    text_of_lines (
    codes "0 a starts" ∷ codes "0 a sleeps 2" ∷ codes "0 a defers" ∷ codes "2 a wakes" ∷
    codes "2 a cancels b not pending" ∷ codes "2 a delays b 4" ∷ codes "2 a cancels b" ∷ codes "2 a mods b 4" ∷
    codes "2 cancelled" ∷ codes "2 a cancels b" ∷ codes "2 a delays b 4" ∷ codes "2 a mods b 1 changed" ∷
    codes "2 a finishes" ∷ codes "3 b fires" ∷ codes "3 b starts" ∷ codes "3 b finishes" ∷ [])

-- b and c share a queue with one place, which is flushed; then a mods b
abbrev pub mods_make_room : ScenarioContents
mods_make_room =
    scenario 1000 (queue (codes "q") 1 plain_flags ∷ queue (codes "r") 1 plain_flags ∷ [])
    (work (codes "a") 0 (mods 1 0 ∷ op.Finish ∷ []) ∷ work (codes "b") 1 (op.Finish ∷ []) ∷ work (codes "c") 1 (op.Finish ∷ []) ∷ [])
    (enqueue 0 0 ∷ enqueue 1 0 ∷ enqueue 2 0 ∷ flush_queue 1 ∷ times instr.Next 2 ∷ state 1 ∷ state 2 ∷ times instr.Next 3 ∷ ask 0 ∷ times instr.Quiet 40 ∷ [])

-- c has the place, and the flush isn't on what b is then
abbrev pub mods_make_room_lines : List ℕ
mods_make_room_lines =
    text_of_lines (
    codes "0 flush 0" ∷ codes "0 a starts" ∷ codes "0 a mods b 0 changed" ∷ codes "0 b inactive 0 still" ∷
    codes "0 c listed 0 still" ∷ codes "0 a finishes" ∷ codes "0 c starts" ∷ codes "0 c finishes" ∷ codes "0 yes" ∷
    codes "0 b starts" ∷ codes "0 b finishes" ∷ [])
