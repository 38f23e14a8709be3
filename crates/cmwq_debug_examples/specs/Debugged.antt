-- Worked examples of debugging: a scenario, instructions, commands, and what is said to each.
use Rattle.std.specs.Prelude.{ℕ, zero, suc, ◌*◌, List, [], ◌∷◌, Some, None, Result, Ok, Err, codes, replicate, ◌++◌}
use Rattle.std.specs.List.{flat_map}
use Rattle.cmwq_types.specs.Contents.{ScenarioContents}
use Rattle.cmwq_types.specs.Scenario.{expand}
use Rattle.cmwq_types.specs.declared.instr.Instr.{Instr}
use Rattle.cmwq_types.specs.declared.instr.Instr.TheVariants as instr
use Rattle.cmwq_debug.specs.Checkpoints.{Spread}
use Rattle.cmwq_debug.specs.Debugging.{Answer, At, Broke, Cleared, Text, answers, opened}
use Rattle.cmwq_debug.specs.declared.command.Command.{Command}
use Rattle.cmwq_debug.specs.declared.command.Command.TheVariants as command
use Rattle.cmwq_debug.specs.declared.command.DebugError.{DebugError}
use Rattle.cmwq_debug.specs.declared.command.DebugError.TheVariants as error
use Rattle.cmwq_debug.specs.declared.command.EventKind.{EventKind}
use Rattle.cmwq_debug.specs.declared.command.EventKind.TheVariants as kind
use Rattle.cmwq_types.specs.Scenario.{plain_flags}
use Rattle.cmwq_types.specs.declared.scenario.Line.{Line}
use Rattle.cmwq_types.specs.declared.scenario.Op.TheVariants as op
use Rattle.cmwq_debug_lines.specs.declared.order.Order.{Order}
use Rattle.cmwq_debug_lines.specs.declared.order.Order.TheVariants as order
use Rattle.cmwq_examples.specs.Declare.{cancel, delay, disable, enqueue, queue, queues, scenario, times, work}
use Rattle.cmwq_types.specs.Listing.{text_of_lines}

-- what a debugger of these instructions says to the commands
abbrev pub commands_answered : ScenarioContents → List Instr → List Command → List (Result Answer DebugError)
commands_answered S instrs commands = answers (opened S instrs) commands

-- the instructions of the scenario's actors
abbrev pub all_instrs : ScenarioContents → List Instr
all_instrs S = flat_map expand S.actors

-- `break work W event E`
abbrev pub break_on : ℕ → EventKind → Command
break_on w event = command.BreakWork (record { 0 = w }) event

abbrev pub stands_at : ℕ → ℕ → Result Answer DebugError
stands_at position now = Ok (At position now None)

abbrev pub at_break : ℕ → ℕ → ℕ → Result Answer DebugError
at_break position now by = Ok (At position now (Some by))

-- The kernel document's scenario with `max_active` 3: there and back.

abbrev pub there_and_back : List Command
there_and_back =
    command.Goto 12 ∷ command.Dump ∷ break_on 0 kind.Wakes ∷ command.Run ∷ command.Back 28 ∷ command.Back 1 ∷ command.Step 45
    ∷ command.Clear 1 ∷ command.Step 8 ∷ command.Back 1 ∷ command.Goto 44 ∷ command.Goto 45 ∷ []

-- w0 sleeps, w1 has just started, and w2 waits on the worklist
abbrev pub dump_at_12 : List ℕ
dump_at_12 =
    text_of_lines (
    codes "now 5 spent 12 frozen no" ∷ codes "queue q max 3" ∷ codes "pool 0 counted 1 made 2 idle" ∷
    codes "run w1 1 0 0" ∷ codes "asleep w0 0 2 15" ∷ codes "listed w2" ∷ codes "pool 1 counted 0 made 0 idle" ∷
    codes "pool 2 counted 0 made 0 idle" ∷ codes "pool 3 counted 0 made 0 idle" ∷ [])

abbrev pub there_and_back_answers : List (Result Answer DebugError)
there_and_back_answers =
    stands_at 12 5 ∷ Ok (Text dump_at_12) ∷ Ok (Broke 0) ∷ at_break 28 15 0 ∷ stands_at 0 0 ∷ Err error.PastStart ∷ Err error.PastEnd
    ∷ Err error.NoSuchBreak ∷ stands_at 8 3 ∷ stands_at 7 2 ∷ stands_at 44 25 ∷ Err error.PastEnd ∷ []

-- A work that queues itself, sleeps, and so starts again as it finishes.

abbrev pub event_breaks : List Command
event_breaks =
    break_on 0 kind.Starts ∷ break_on 0 kind.Finishes ∷ command.Run ∷ command.Run ∷ command.Clear 0 ∷ command.Back 1
    ∷ command.Run ∷ command.BreakTime 1 ∷ command.Goto 2 ∷ command.Run ∷ []

abbrev pub event_breaks_answers : List (Result Answer DebugError)
event_breaks_answers =
    Ok (Broke 0) ∷ Ok (Broke 1) ∷ at_break 2 0 0 ∷ at_break 9 2 0 ∷ Ok (Cleared 0) ∷ stands_at 8 2 ∷ at_break 9 2 1 ∷ Ok (Broke 0)
    ∷ stands_at 2 0 ∷ at_break 6 1 0 ∷ []

-- Work a, when its timer fires, queues b and finishes; b queues itself twice, so that it defers where it sleeps.

abbrev pub each_event : ScenarioContents
each_event =
    scenario 1000 (queue (codes "q") 8 plain_flags ∷ [])
    (work (codes "a") 0 (queues 1 ∷ op.Finish ∷ [])
    ∷ work (codes "b") 0 (queues 1 ∷ queues 1 ∷ op.Burn 1 ∷ op.Sleep 1 ∷ op.Finish ∷ []) ∷ [])
    (delay 0 1 ∷ times instr.Next 15 ∷ [])

-- breaks on all that b does, and on what only a does: it fires, and finishes for good
abbrev pub each_event_breaks : List Command
each_event_breaks =
    break_on 1 kind.Starts ∷ break_on 1 kind.Burns ∷ break_on 1 kind.Sleeps ∷ break_on 1 kind.Wakes ∷ break_on 0 kind.Finishes
    ∷ break_on 1 kind.Defers ∷ break_on 0 kind.Fires ∷ break_on 1 kind.Queues
    ∷ replicate 11 command.Run ++ command.Back 4 ∷ command.Step 3 ∷ command.Back 2 ∷ command.DumpPool 0 ∷ command.DumpPool 1 ∷ []

-- b sleeps on the worker that a has left
abbrev pub pool_0_at_13 : List ℕ
pool_0_at_13 = text_of_lines (codes "pool 0 counted 0 made 1 idle" ∷ codes "asleep b 0 4 3" ∷ codes "deferred b" ∷ [])

abbrev pub pool_1_at_13 : List ℕ
pool_1_at_13 = text_of_lines (codes "pool 1 counted 0 made 0 idle" ∷ [])

-- a starts at 4 and queues b at 5, where no run stops; b finds itself queued already at 9
abbrev pub each_event_answers : List (Result Answer DebugError)
each_event_answers =
    Ok (Broke 0) ∷ Ok (Broke 1) ∷ Ok (Broke 2) ∷ Ok (Broke 3) ∷ Ok (Broke 4) ∷ Ok (Broke 5) ∷ Ok (Broke 6) ∷ Ok (Broke 7)
    ∷ at_break 3 1 6 ∷ at_break 6 1 4 ∷ at_break 7 1 0 ∷ at_break 8 1 7 ∷ at_break 9 1 7 ∷ at_break 10 1 1 ∷ at_break 12 2 2
    ∷ at_break 13 2 5 ∷ at_break 15 3 3 ∷ at_break 16 3 0 ∷ Err error.PastEnd ∷ stands_at 12 2 ∷ stands_at 15 3 ∷ stands_at 13 2
    ∷ Ok (Text pool_0_at_13) ∷ Ok (Text pool_1_at_13) ∷ []

-- The body of b is to queue a, which is disabled.

abbrev pub disabled_breaks : List Command
disabled_breaks = break_on 0 kind.Queues ∷ break_on 1 kind.Queues ∷ command.Run ∷ command.Dump ∷ command.Run ∷ []

-- a was disabled twice, and its queueing was refused; b goes on to its end
abbrev pub dump_at_8 : List ℕ
dump_at_8 =
    text_of_lines (
    codes "now 0 spent 6 frozen no" ∷ codes "queue q max 1" ∷ codes "pool 0 counted 1 made 1 idle" ∷
    codes "run b 0 1 0" ∷ codes "pool 1 counted 0 made 0 idle" ∷ codes "pool 2 counted 0 made 0 idle" ∷
    codes "pool 3 counted 0 made 0 idle" ∷ codes "disabled a 2" ∷ [])

abbrev pub disabled_breaks_answers : List (Result Answer DebugError)
disabled_breaks_answers = Ok (Broke 0) ∷ Ok (Broke 1) ∷ at_break 8 0 1 ∷ Ok (Text dump_at_8) ∷ stands_at 17 1 ∷ []

-- The body of a sets b's timer, sets it anew, and takes b off, twice; then it finds b disabled.

abbrev pub timers_from_bodies : ScenarioContents
timers_from_bodies =
    scenario 1000 (queue (codes "q") 8 plain_flags ∷ [])
    (work (codes "a") 0
    (op.Delay (record { 0 = 1 }) 2 ∷ op.Mod (record { 0 = 1 }) 1 ∷ op.Cancel (record { 0 = 1 }) ∷ op.Cancel (record { 0 = 1 }) ∷ op.Finish ∷ [])
    ∷ work (codes "b") 0 (op.Finish ∷ []) ∷ [])
    (enqueue 0 0 ∷ times instr.Next 6 ∷ disable 1 ∷ enqueue 0 0 ∷ times instr.Next 6 ∷ [])

-- those on b stand first, and no event is b's
abbrev pub timers_from_bodies_breaks : List Command
timers_from_bodies_breaks =
    break_on 1 kind.Delays ∷ break_on 1 kind.Mods ∷ break_on 1 kind.Cancels ∷ break_on 0 kind.Delays ∷ break_on 0 kind.Mods
    ∷ break_on 0 kind.Cancels ∷ command.List ∷ replicate 10 command.Run

abbrev pub six_breaks : List ℕ
six_breaks =
    text_of_lines (
    codes "break 0 work b event delays" ∷ codes "break 1 work b event mods" ∷ codes "break 2 work b event cancels" ∷
    codes "break 3 work a event delays" ∷ codes "break 4 work a event mods" ∷ codes "break 5 work a event cancels" ∷ [])

-- a starts at 2 and at 10; from 11 on b is disabled, and not pending
abbrev pub timers_from_bodies_answers : List (Result Answer DebugError)
timers_from_bodies_answers =
    Ok (Broke 0) ∷ Ok (Broke 1) ∷ Ok (Broke 2) ∷ Ok (Broke 3) ∷ Ok (Broke 4) ∷ Ok (Broke 5) ∷ Ok (Text six_breaks)
    ∷ at_break 3 0 3 ∷ at_break 4 0 4 ∷ at_break 5 0 5 ∷ at_break 6 0 5 ∷ at_break 11 0 3 ∷ at_break 12 0 4 ∷ at_break 13 0 5
    ∷ at_break 14 0 5 ∷ stands_at 15 0 ∷ Err error.PastEnd ∷ []

-- The rescuer of b's queue takes it while memory is short, before c, which was queued first.

abbrev pub rescuer_breaks : List Command
rescuer_breaks =
    break_on 1 kind.Starts ∷ break_on 2 kind.Starts ∷ command.Run ∷ command.Dump ∷ command.Run ∷ command.Dump ∷ command.Back 6
    ∷ command.DumpPool 0 ∷ command.Run ∷ command.Run ∷ []

-- a sleeps on the one worker that was made; the second pressure was refused
abbrev pub dump_under_pressure : List ℕ
dump_under_pressure =
    text_of_lines (
    codes "now 0 spent 7 frozen no" ∷ codes "pressed" ∷ codes "queue q max 2" ∷ codes "queue r max 2" ∷
    codes "pool 0 counted 1 made 1 idle" ∷ codes "run b rescuer 0 0" ∷ codes "asleep a 0 1 3" ∷ codes "listed c" ∷
    codes "pool 1 counted 0 made 0 idle" ∷ codes "pool 2 counted 0 made 0 idle" ∷ codes "pool 3 counted 0 made 0 idle" ∷ [])

-- b has begun to burn
abbrev pub pool_0_at_10 : List ℕ
pool_0_at_10 =
    text_of_lines (codes "pool 0 counted 1 made 1 idle" ∷ codes "run b rescuer 1 1" ∷ codes "asleep a 0 1 3" ∷ codes "listed c" ∷ [])

-- the rescuer was never made, and is no idle worker; c has a worker that was made for it
abbrev pub dump_after_relief : List ℕ
dump_after_relief =
    text_of_lines (
    codes "now 2 spent 13 frozen no" ∷ codes "queue q max 2" ∷ codes "queue r max 2" ∷
    codes "pool 0 counted 1 made 2 idle" ∷ codes "run c 1 0 0" ∷ codes "asleep a 0 1 3" ∷
    codes "pool 1 counted 0 made 0 idle" ∷ codes "pool 2 counted 0 made 0 idle" ∷ codes "pool 3 counted 0 made 0 idle" ∷ [])

abbrev pub rescuer_breaks_answers : List (Result Answer DebugError)
rescuer_breaks_answers =
    Ok (Broke 0) ∷ Ok (Broke 1) ∷ at_break 8 0 0 ∷ Ok (Text dump_under_pressure) ∷ at_break 16 2 1 ∷ Ok (Text dump_after_relief)
    ∷ stands_at 10 0 ∷ Ok (Text pool_0_at_10) ∷ at_break 16 2 1 ∷ stands_at 20 3 ∷ []

-- A refused instruction, a tick, and a refused instruction again.

abbrev pub refusals : List Instr
refusals = instr.Fire ∷ instr.Tick ∷ instr.Fire ∷ []

abbrev pub refusal_breaks : List Command
refusal_breaks =
    command.BreakTime 0 ∷ command.BreakTime 1 ∷ command.BreakRefusal ∷ command.Run ∷ command.Run ∷ command.Run ∷ command.Run ∷ []

-- no instruction makes the time 0, and the last one leaves it at 1
abbrev pub refusal_breaks_answers : List (Result Answer DebugError)
refusal_breaks_answers =
    Ok (Broke 0) ∷ Ok (Broke 1) ∷ Ok (Broke 2) ∷ at_break 1 0 2 ∷ at_break 2 1 1 ∷ at_break 3 1 2 ∷ Err error.PastEnd ∷ []

-- `mod W C 0`
abbrev pub modify_on : ℕ → ℕ → Line
modify_on w cpu = record { instr = instr.Mod (record { 0 = w }) cpu 0; times = 1 }

-- A queue of one: a is listed as it is placed, b and c are inactive. Then b goes to the other CPU, anew, where it is listed; a is taken off, and c is
-- activated.

abbrev pub activation : ScenarioContents
activation =
    record
    (scenario 1000 (queue (codes "q") 1 plain_flags ∷ [])
    (work (codes "a") 0 (op.Finish ∷ []) ∷ work (codes "b") 0 (op.Finish ∷ []) ∷ work (codes "c") 0 (op.Finish ∷ []) ∷ [])
    (enqueue 0 0 ∷ enqueue 1 0 ∷ enqueue 2 0 ∷ modify_on 1 1 ∷ cancel 0 ∷ []))
    { cpus = 2 }

-- `break activates W`
abbrev pub break_activation : ℕ → Command
break_activation w = command.BreakActivation (record { 0 = w })

abbrev pub activation_breaks : List Command
activation_breaks =
    break_activation 3 ∷ break_activation 0 ∷ break_activation 1 ∷ break_activation 2 ∷ command.Run ∷ command.Back 1 ∷ command.Dump
    ∷ command.Clear 2 ∷ command.Run ∷ []

abbrev pub dump_before_activation : List ℕ
dump_before_activation =
    text_of_lines (
    codes "now 0 spent 4 frozen no" ∷ codes "queue q max 1" ∷ codes "pool 0 counted 0 made 0 idle" ∷ codes "listed a" ∷ codes "inactive c" ∷
    codes "pool 1 counted 0 made 0 idle" ∷ codes "pool 2 counted 0 made 0 idle" ∷ codes "listed b" ∷ codes "pool 3 counted 0 made 0 idle" ∷
    codes "pool 4 counted 0 made 0 idle" ∷ codes "pool 5 counted 0 made 0 idle" ∷ [])

abbrev pub activation_answers : List (Result Answer DebugError)
activation_answers =
    Err error.NoSuchWork ∷ Ok (Broke 0) ∷ Ok (Broke 1) ∷ Ok (Broke 2) ∷ at_break 5 0 2 ∷ stands_at 4 0 ∷ Ok (Text dump_before_activation)
    ∷ Ok (Cleared 2) ∷ stands_at 5 0 ∷ []

-- The breaks that are set, as they come and go.

abbrev pub list_questions : List Command
list_questions =
    command.List ∷ command.BreakTime 15 ∷ command.BreakRefusal ∷ break_on 1 kind.Wakes ∷ break_activation 2 ∷ command.Clear 1 ∷ command.List
    ∷ command.BreakTime 0 ∷ command.List ∷ []

abbrev pub list_answers : List (Result Answer DebugError)
list_answers =
    Ok (Text (text_of_lines (codes "no breaks" ∷ []))) ∷ Ok (Broke 0) ∷ Ok (Broke 1) ∷ Ok (Broke 2) ∷ Ok (Broke 3) ∷ Ok (Cleared 1)
    ∷ Ok (Text (text_of_lines (codes "break 0 time 15" ∷ codes "break 2 work b event wakes" ∷ codes "break 3 activates c" ∷ [])))
    ∷ Ok (Broke 1)
    ∷ Ok (Text (text_of_lines (codes "break 0 time 15" ∷ codes "break 1 time 0" ∷ codes "break 2 work b event wakes" ∷ codes "break 3 activates c" ∷ []))) ∷ []

-- Words that are cut short, and what the lines tell. Both `back` and `break` begin with b.

abbrev pub short_words : List (List (List ℕ))
short_words =
    (codes "s" ∷ []) ∷ (codes "st" ∷ codes "3" ∷ []) ∷ (codes "b" ∷ []) ∷ (codes "ba" ∷ []) ∷ (codes "steps" ∷ []) ∷ (codes "step" ∷ codes "1" ∷ codes "1" ∷ [])
    ∷ (codes "br" ∷ codes "activates" ∷ codes "c" ∷ []) ∷ (codes "br" ∷ codes "act" ∷ codes "c" ∷ []) ∷ (codes "break" ∷ codes "activates" ∷ codes "d" ∷ []) ∷ (codes "l" ∷ [])
    ∷ (codes "h" ∷ codes "s" ∷ []) ∷ (codes "quit" ∷ codes "1" ∷ []) ∷ (codes "q" ∷ []) ∷ (codes "n" ∷ codes "event" ∷ []) ∷ (codes "next" ∷ []) ∷ (codes "next" ∷ codes "ev" ∷ [])
    ∷ (codes "next" ∷ codes "event" ∷ codes "1" ∷ []) ∷ []

abbrev pub short_orders : List Order
short_orders =
    order.Do (command.Step 1) ∷ order.Do (command.Step 3) ∷ order.Bad ∷ order.Do (command.Back 1) ∷ order.Bad ∷ order.Bad
    ∷ order.Do (break_activation 2) ∷ order.Bad ∷ order.NoWork ∷ order.Do command.List
    ∷ order.Bad ∷ order.Bad ∷ order.Quit ∷ order.Do command.NextEvent ∷ order.Bad ∷ order.Bad ∷ order.Bad ∷ []

-- a session that is ended before its commands are
abbrev pub ended_session : List ℕ
ended_session = text_of_lines (codes "s" ∷ codes "q" ∷ codes "s" ∷ [])

abbrev pub said_in_ended_session : List ℕ
said_in_ended_session = text_of_lines (codes "at 1 now 0" ∷ [])

-- At a terminal: there and back, words that are no command, and steps past the end; then the commands end.

abbrev pub typed_commands : List ℕ
typed_commands = text_of_lines (codes "s" ∷ codes "run" ∷ codes "s" ∷ codes "nonsense" ∷ codes "back 5" ∷ codes "goto 5" ∷ [])

-- behind prompts the answers, and behind each move its instruction and, where a run prints one, its line
abbrev pub said_at_terminal : List ℕ
said_at_terminal =
    codes "0 now 0> " ++ text_of_lines (codes "at 1 now 0" ∷ codes "  queue a 0" ∷ [])
    ++ codes "1 now 0> " ++ text_of_lines (codes "at 5 now 0" ∷ codes "  cancel a" ∷ codes "  0 cancelled" ∷ [])
    ++ codes "5 now 0> " ++ text_of_lines (codes "refused PastEnd" ∷ []) ++ codes "5 now 0> " ++ text_of_lines (codes "bad command" ∷ [])
    ++ codes "5 now 0> " ++ text_of_lines (codes "at 0 now 0" ∷ [])
    ++ codes "0 now 0> " ++ text_of_lines (codes "at 5 now 0" ∷ codes "  cancel a" ∷ codes "  0 cancelled" ∷ []) ++ codes "5 now 0> " ++ 10 ∷ []

-- at a terminal, where the session is ended before its commands are
abbrev pub said_at_ended_terminal : List ℕ
said_at_ended_terminal = codes "0 now 0> " ++ text_of_lines (codes "at 1 now 0" ∷ codes "  queue a 0" ∷ []) ++ codes "1 now 0> "

-- At a terminal where time passes: a work is queued, starts, burns a tick, and finishes.

abbrev pub one_tick : ScenarioContents
one_tick = scenario 1000 (queue (codes "q") 1 plain_flags ∷ []) (work (codes "a") 0 (op.Burn 1 ∷ op.Finish ∷ []) ∷ []) (enqueue 0 0 ∷ times instr.Next 4 ∷ [])

abbrev pub commands_over_a_tick : List ℕ
commands_over_a_tick = text_of_lines (codes "s 4" ∷ codes "s" ∷ codes "list" ∷ codes "back 3" ∷ [])

-- position 4 is behind the tick, of which a run prints nothing; back at position 2 it is time 0 again
abbrev pub said_over_a_tick : List ℕ
said_over_a_tick =
    codes "0 now 0> " ++ text_of_lines (codes "at 4 now 1" ∷ codes "  next" ∷ [])
    ++ codes "4 now 1> " ++ text_of_lines (codes "at 5 now 1" ∷ codes "  next" ∷ codes "  1 a finishes" ∷ [])
    ++ codes "5 now 1> " ++ text_of_lines (codes "no breaks" ∷ [])
    ++ codes "5 now 1> " ++ text_of_lines (codes "at 2 now 0" ∷ codes "  next" ∷ codes "  0 a starts" ∷ []) ++ codes "2 now 0> " ++ 10 ∷ []

-- The same work, and an actor that goes on until nothing is left, then cancels it, and goes on again.

abbrev pub quiet_end : ScenarioContents
quiet_end =
    scenario 1000 (queue (codes "q") 1 plain_flags ∷ []) (work (codes "a") 0 (op.Burn 1 ∷ op.Finish ∷ []) ∷ [])
    (enqueue 0 0 ∷ times instr.Quiet 6 ∷ cancel 0 ∷ times instr.Quiet 2 ∷ [])

abbrev pub next_events : List Command
next_events = replicate 6 command.NextEvent ++ command.Back 9 ∷ command.BreakTime 1 ∷ command.NextEvent ∷ command.Goto 3 ∷ command.NextEvent ∷ []

-- a starts, burns, and finishes behind a tick; two `quiet` later it isn't pending, and the last two print nothing; a break on the tick stops no way
abbrev pub next_events_answers : List (Result Answer DebugError)
next_events_answers =
    stands_at 2 0 ∷ stands_at 3 0 ∷ stands_at 5 1 ∷ stands_at 8 1 ∷ stands_at 10 1 ∷ Err error.PastEnd ∷ stands_at 1 0 ∷ Ok (Broke 0) ∷ stands_at 2 0
    ∷ stands_at 3 0 ∷ stands_at 5 1 ∷ []

-- Sixteen breaks, and a seventeenth.

abbrev pub many_breaks : List Command
many_breaks = replicate 17 command.BreakRefusal ++ break_on 9 kind.Wakes ∷ command.Clear 7 ∷ command.BreakTime 3 ∷ command.DumpPool 4 ∷ []

abbrev pub many_breaks_answers : List (Result Answer DebugError)
many_breaks_answers =
    Ok (Broke 0) ∷ Ok (Broke 1) ∷ Ok (Broke 2) ∷ Ok (Broke 3) ∷ Ok (Broke 4) ∷ Ok (Broke 5) ∷ Ok (Broke 6) ∷ Ok (Broke 7)
    ∷ Ok (Broke 8) ∷ Ok (Broke 9) ∷ Ok (Broke 10) ∷ Ok (Broke 11) ∷ Ok (Broke 12) ∷ Ok (Broke 13) ∷ Ok (Broke 14) ∷ Ok (Broke 15)
    ∷ Err error.TooManyBreaks ∷ Err error.NoSuchWork ∷ Ok (Cleared 7) ∷ Ok (Broke 7) ∷ Err error.NoSuchPool ∷ []

-- Why a flush isn't done, and works aren't further. y waits for x's place in its queue, x for the concurrency level, d for c, and c for u.

-- `why W`
abbrev pub ask_why : ℕ → Command
ask_why w = command.Why (record { 0 = w })

abbrev pub chain_questions : List Command
chain_questions = command.Goto 14 ∷ command.WhyFlush 0 ∷ command.Step 1 ∷ command.WhyFlush 0 ∷ ask_why 2 ∷ ask_why 5 ∷ command.WhyFlush 1 ∷ []

abbrev pub chain_at_15 : List ℕ
chain_at_15 =
    text_of_lines (
    codes "flush 0 waits for 1" ∷ codes "  y inactive 0: q has 1 of 1 active: x listed" ∷ codes "    x listed 0: held by c d" ∷
    codes "    c runnable, high u has the CPU" ∷ codes "    d runnable, behind c" ∷ codes "    u burns" ∷ [])

-- the flush is the last instruction, and there are five works
abbrev pub chain_answers : List (Result Answer DebugError)
chain_answers =
    stands_at 14 2 ∷ Err error.NoSuchFlush ∷ stands_at 15 2 ∷ Ok (Text chain_at_15) ∷ Ok (Text (text_of_lines (codes "x listed 0: held by c d" ∷ [])))
    ∷ Err error.NoSuchWork ∷ Err error.NoSuchFlush ∷ []

-- b waits for a's place in their queue.

abbrev pub hold_questions : List Command
hold_questions = command.Goto 13 ∷ command.WhyFlush 0 ∷ command.Goto 21 ∷ command.WhyFlush 0 ∷ ask_why 1 ∷ command.Back 3 ∷ ask_why 1 ∷ ask_why 0 ∷ []

abbrev pub hold_at_13 : List ℕ
hold_at_13 =
    text_of_lines (
    codes "flush 0 waits for 2" ∷ codes "  a asleep until 5" ∷ codes "  b inactive 0: q has 1 of 1 active: a asleep until 5" ∷ [])

abbrev pub hold_answers : List (Result Answer DebugError)
hold_answers =
    stands_at 13 3 ∷ Ok (Text hold_at_13) ∷ stands_at 21 6 ∷ Ok (Text (text_of_lines (codes "flush 0 done" ∷ [])))
    ∷ Ok (Text (text_of_lines (codes "b not pending" ∷ []))) ∷ stands_at 18 5 ∷ Ok (Text (text_of_lines (codes "b ready, goes on next" ∷ [])))
    ∷ Ok (Text (text_of_lines (codes "a not pending" ∷ []))) ∷ []

-- Checkpoints on a long way.

-- the first multiples of a number
abbrev pub multiples : ℕ → ℕ → List ℕ
multiples zero spacing = []
multiples (suc n) spacing = multiples n spacing ++ suc n * spacing ∷ []

-- so many checkpoints, at the first multiples of the spacing
abbrev pub spread_at : ℕ → ℕ → Spread
spread_at count spacing = record { positions = multiples count spacing; spacing = spacing }

-- those at 64 and at 192, and none between
abbrev pub one_missing : Spread
one_missing = record { positions = 64 ∷ 192 ∷ []; spacing = 64 }

-- as many as may be, all at even multiples of the spacing
abbrev pub at_even_multiples : Spread
at_even_multiples = record { positions = multiples 256 128; spacing = 64 }
