-- Who sets timers: in the tick in which a work's body sets one, the row of the work that is on it shows whose body that was.
use Rattle.std.specs.Prelude.{ℕ, Bool, false, ◌&&◌, List, [], ◌∷◌, Option, Some, None, if◌then◌else◌, nat_lt, ◌==◌}
use Rattle.std.specs.List.{cons_option, filter}
use Rattle.cmwq_types.specs.Contents.{ScenarioContents}
use Rattle.cmwq_types.specs.EventParts.{object_of, ticks_of}
use Rattle.cmwq_types.specs.declared.event_parts.Object.{Object}
use Rattle.cmwq_types.specs.declared.instr.Instr.{Instr}
use Rattle.cmwq_types.specs.declared.instr.WorkId.{WorkId}
use Rattle.cmwq_types.specs.declared.reply.Event.{Event}
use Rattle.cmwq_types.specs.declared.reply.Reply.{Reply}
use Rattle.cmwq_types.specs.declared.reply.Reply.TheVariants as reply
use Rattle.cmwq_table.specs.Counts.{or_else}
use Rattle.cmwq_table.specs.State.{State, pending_at}
use Rattle.cmwq_table.specs.Table.{table}
use Rattle.cmwq_table.specs.Told.{has_queued}
use Rattle.cmwq_table.specs.declared.state.Pending.{Pending}
use Rattle.cmwq_picture.specs.declared.arming.Arming.{Arming}
use Rattle.cmwq_picture.specs.declared.cell.Cell.{Cell}
use Rattle.cmwq_picture.specs.declared.cell.Cell.TheVariants.{Does, Armed}
use Rattle.cmwq_picture.specs.declared.cell.Sign.TheVariants as sign

-- the work whose timer the event of a body sets: after no ticks it is placed at once
abbrev pub armed_object : Option ℕ → Option Object → Option WorkId
armed_object (Some ticks) (Some o) = if nat_lt 0 ticks && has_queued o.outcome then Some o.work else None
armed_object ticks object = None

abbrev pub armed_work : Event → Option WorkId
armed_work event = armed_object (ticks_of event) (object_of event)

-- a body set the timer at this time for the instance that is pending then
abbrev pub arming_for : ℕ → WorkId → WorkId → Option Pending → Option Arming
arming_for time by work (Some p) = Some (record { time = time; work = work; by = by; born = p.born })
arming_for time by work None = None

abbrev pub arming_by : ℕ → State → WorkId → Option WorkId → Option Arming
arming_by time after by (Some work) = arming_for time by work (pending_at after work.0)
arming_by time after by None = None

-- the timer that a body set at this time, by the answer to an instruction and the state after it
abbrev pub new_arming : ℕ → State → Reply → Option Arming
new_arming time after (reply.Event by event) = arming_by time after by (armed_work event)
new_arming time after other = None

-- those that bodies set in the run, and when
abbrev pub armings_from : ScenarioContents → State → List Instr → List Arming
armings_from S s [] = []
armings_from S s (i ∷ is) = cons_option (new_arming s.time (table S s i).0 (table S s i).1) (armings_from S (table S s i).0 is)

-- those of the tick that begins at this time
abbrev pub in_tick : List Arming → ℕ → List Arming
in_tick armings time = filter (λ arming. arming.time == time) armings

-- it is for this instance of the work
abbrev pub is_for : ℕ → Option Pending → Arming → Bool
is_for w (Some p) arming = (arming.work.0 == w) && (arming.born == p.born)
is_for w None arming = false

-- the work whose body set a timer for this instance, if one of these did; the last one
abbrev pub armer : List Arming → ℕ → Option Pending → Option WorkId
armer [] w p = None
armer (arming ∷ later) w p = or_else (armer later w p) (if is_for w p arming then Some arming.by else None)

-- the mark stands in the stead of the sign of a timer
abbrev pub marked : Option WorkId → Cell → Cell
marked None cell = cell
marked (Some by) (Does sign.Timed) = Armed by
marked (Some by) cell = cell
