-- Orders of several actors' instructions: what may come next, and what comes of it.
use Rattle.std.specs.Prelude.{ℕ, zero, suc, ◌+◌, Bool, true, false, not, ◌&&◌, ◌||◌, List, [], ◌∷◌, length, map, replicate, Option, Some, None, if◌then◌else◌, is_none, is_some, nat_lt, ◌==◌, slice_get, slice_index_or, slice_set}
use Rattle.std.specs.List.{flat_map, list_all}
use Rattle.cmwq_types.specs.Contents.{ActorContents, ScenarioContents}
use Rattle.cmwq_types.specs.Scenario.{expand_lines, pool_count}
use Rattle.cmwq_types.specs.declared.instr.Instr.{Instr}
use Rattle.cmwq_types.specs.declared.instr.Instr.TheVariants as instr
use Rattle.cmwq_types.specs.declared.scenario.Line.{Line as ActorLine}
use Rattle.cmwq_types.specs.declared.reply.Place.{Place}
use Rattle.cmwq_types.specs.declared.reply.Place.TheVariants.{Timer, Inactive, Listed, Deferred}
use Rattle.cmwq_types.specs.declared.reply.Refusal.{Refusal}
use Rattle.cmwq_types.specs.declared.reply.Refusal.TheVariants as refusal
use Rattle.cmwq_types.specs.declared.reply.Reply.{Reply}
use Rattle.cmwq_types.specs.declared.reply.Reply.TheVariants as reply
use Rattle.cmwq_table.specs.Counts.{is_done, pends}
use Rattle.cmwq_table.specs.State.{State, pending_at, running_at}
use Rattle.cmwq_table.specs.State as states
use Rattle.cmwq_table.specs.Laws.{goes_on}
use Rattle.cmwq_table.specs.Table.{is_met, operands, table, target_at}
use Rattle.cmwq_orders.specs.declared.choice.Before.{Before}
use Rattle.cmwq_orders.specs.declared.choice.Choice.{Choice}
use Rattle.cmwq_orders.specs.declared.choice.Choice.TheVariants.{Line, Own}

-- What an actor does.

-- A `cancel_sync` stands for a disable, a flush and an enable: while a kernel's `cancel_work_sync` waits, nobody can queue the work.
abbrev pub apart : Instr → List Instr
apart (instr.CancelSync w) = instr.Disable w ∷ instr.Flush w ∷ instr.Enable w ∷ []
apart i = i ∷ []

-- a line as often as it stands; but an actor stands at an until, a wait or a quiet once, until what it goes on for has come
abbrev pub stands : ActorLine → ActorLine
stands line = if goes_on line.instr then record line { times = 1 } else line

-- what an actor carries out, one after another
abbrev pub lines_of : ActorContents → List Instr
lines_of actor = flat_map apart (expand_lines (map stands actor.lines))

abbrev pub no_actor : ActorContents
no_actor = record { name = []; lines = [] }

abbrev pub lines_at : ScenarioContents → ℕ → List Instr
lines_at S actor = lines_of (slice_index_or S.actors actor no_actor)

-- Where all stand.

-- What some choices have come to: the machine's state and, of each actor, how many lines it has carried out, and the flush that
-- the last of them gave, if it gave one.
pub record Explored : Type 0 where
  pub machine : State
  pub at : List ℕ
  pub waits : List (Option ℕ)

-- nobody has begun
abbrev pub start : ScenarioContents → Explored
start S =
    record { machine = states.start S; at = replicate (length S.actors) 0; waits = replicate (length S.actors) None }

-- the line that the actor carries out next
abbrev pub next_line : ScenarioContents → Explored → ℕ → Option Instr
next_line S e actor = slice_get (lines_at S actor) (slice_index_or e.at actor 0)

abbrev pub is_open : ScenarioContents → State → Option ℕ → Bool
is_open S s (Some flush) = not (is_done S s (target_at s flush))
is_open S s None = false

-- the flush that the actor's last line gave isn't done
abbrev pub is_waiting : ScenarioContents → Explored → ℕ → Bool
is_waiting S e actor = is_open S e.machine (slice_index_or e.waits actor None)

-- the actor has carried out its lines, and waits for nothing
abbrev pub has_ended : ScenarioContents → Explored → ℕ → Bool
has_ended S e actor = is_none (next_line S e actor) && not (is_waiting S e actor)

-- all that precede the actor have ended
abbrev pub may_begin : ScenarioContents → List Before → Explored → ℕ → Bool
may_begin S before e actor = list_all (λ (p : Before). not (p.then == actor) || has_ended S e p.first) before

-- the actor waits for nobody
abbrev pub may_go : ScenarioContents → List Before → Explored → ℕ → Bool
may_go S before e actor = may_begin S before e actor && not (is_waiting S e actor)

-- What comes of a choice.

-- Refused so, a line can't come now; refused otherwise, it is what a caller in C is told, who goes on.
abbrev pub comes_later : Refusal → Bool
comes_later refusal.NothingToDo = true
comes_later (refusal.Unsettled cause) = true
comes_later refusal.Spent = true
comes_later why = false

abbrev pub cannot_come : Reply → Bool
cannot_come (reply.Refused why) = comes_later why
cannot_come other = false

-- the flush that a reply gives
abbrev pub flush_given : Reply → Option ℕ
flush_given (reply.Flush flush) = Some flush
flush_given (reply.Sync was flush) = Some flush
flush_given other = None

-- the actor has carried out one line more, and the table has answered so
abbrev pub went_on : Explored → ℕ → State × Reply → Explored
went_on e actor after =
    record {
      machine = after.0;
      at = slice_set e.at actor (slice_index_or e.at actor 0 + 1);
      waits = slice_set e.waits actor (flush_given after.1);
    }

abbrev pub carried : Explored → ℕ → State × Reply → Option Explored
carried e actor after = if cannot_come after.1 then None else Some (went_on e actor after)

-- an actor stands at an until, a wait or a quiet until what it goes on for has come, and then the line is nothing; a flush that
-- isn't given yet isn't done
abbrev pub comes : ScenarioContents → State → Instr → Bool
comes S s i = not (goes_on i) || (is_met S s i && is_none (operands S s i))

-- the actor's next line, which is this, if it has one
abbrev pub taken_next : ScenarioContents → Explored → ℕ → Option Instr → Option Explored
taken_next S e actor (Some i) = if comes S e.machine i then carried e actor (table S e.machine i) else None
taken_next S e actor None = None

abbrev pub taken_line : ScenarioContents → List Before → Explored → ℕ → Option Explored
taken_line S before e actor = if may_go S before e actor then taken_next S e actor (next_line S e actor) else None

abbrev pub is_timed : Place → Bool
is_timed (Timer due cpu) = true
is_timed (Inactive pool) = false
is_timed (Listed pool) = false
is_timed (Deferred pool) = false

-- some number below n passes
abbrev pub any_below : (ℕ → Bool) → ℕ → Bool
any_below test zero = false
any_below test (suc n) = any_below test n || test n

-- a timer is set, or a work runs: something may come of time
abbrev pub is_astir : ScenarioContents → State → Bool
is_astir S s = any_below (λ w. pends is_timed (pending_at s w) || is_some (running_at s w)) (length S.works)

-- the line is an until of a time that hasn't come
abbrev pub awaits_time : State → Option Instr → Bool
awaits_time s (Some (instr.Until time)) = nat_lt s.time time
awaits_time s other = false

-- an actor that waits for nobody stands at such a line
abbrev pub is_time_awaited : ScenarioContents → List Before → Explored → Bool
is_time_awaited S before e =
    any_below (λ actor. may_go S before e actor && awaits_time e.machine (next_line S e actor)) (length S.actors)

-- what the machine may do by itself: fire, step any pool, and tick where something may come of it, or an actor awaits a time
abbrev pub is_own : ScenarioContents → List Before → Explored → Instr → Bool
is_own S before e instr.Fire = true
is_own S before e (instr.Step pool) = nat_lt pool (pool_count S)
is_own S before e instr.Tick = is_astir S e.machine || is_time_awaited S before e
is_own S before e other = false

abbrev pub moved : Explored → State × Reply → Option Explored
moved e after = if cannot_come after.1 then None else Some (record e { machine = after.0 })

abbrev pub taken_own : ScenarioContents → List Before → Explored → Instr → Option Explored
taken_own S before e i = if is_own S before e i then moved e (table S e.machine i) else None

-- What the choice comes to. None: it can't be taken now.
unfoldable pub taken : ScenarioContents → List Before → Explored → Choice → Option Explored
taken S before e (Line actor) = taken_line S before e actor
taken S before e (Own i) = taken_own S before e i

-- Orders.

abbrev pub and_then : (Explored → Option Explored) → Option Explored → Option Explored
and_then f (Some e) = f e
and_then f None = None

-- what these choices come to, one after another
abbrev pub reached_from : ScenarioContents → List Before → List Choice → Explored → Option Explored
reached_from S before [] e = Some e
reached_from S before (c ∷ cs) e = and_then (reached_from S before cs) (taken S before e c)

-- The instructions of an order.

abbrev pub instr_taken : ScenarioContents → Explored → Choice → Option Instr
instr_taken S e (Line actor) = next_line S e actor
instr_taken S e (Own i) = Some i

abbrev pub and_then_told : Option Instr → (Explored → List Instr) → Option Explored → List Instr
and_then_told (Some i) later (Some e) = i ∷ later e
and_then_told (Some i) later None = []
and_then_told None later (Some e) = []
and_then_told None later None = []

-- the instructions of these choices, up to one that can't be taken
abbrev pub instrs_from : ScenarioContents → List Before → List Choice → Explored → List Instr
instrs_from S before [] e = []
instrs_from S before (c ∷ cs) e = and_then_told (instr_taken S e c) (instrs_from S before cs) (taken S before e c)

abbrev pub instrs_of : ScenarioContents → List Before → List Choice → List Instr
instrs_of S before cs = instrs_from S before cs (start S)

-- what they come to from the start
abbrev pub reached : ScenarioContents → List Before → List Choice → Option Explored
reached S before cs = reached_from S before cs (start S)
