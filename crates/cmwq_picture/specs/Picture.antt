-- What a picture of a run shows: a row for each work, CPU and worker, and a column for each tick.
use Rattle.std.specs.Prelude.{ℕ, ◌*◌, ◌/◌, Bool, true, false, not, ◌&&◌, ◌||◌, List, [], ◌∷◌, ◌++◌, length, map, Option, Some, None, if◌then◌else◌, nat_le, nat_lt, ◌==◌}
use Rattle.std.specs.List.{filter, find, flat_map, list_any, range_with_len}
use Rattle.cmwq_types.specs.Contents.{ScenarioContents}
use Rattle.cmwq_types.specs.Scenario.{is_unbound, queue_of}
use Rattle.cmwq_types.specs.declared.instr.Instr.{Instr}
use Rattle.cmwq_types.specs.declared.instr.Instr.TheVariants as instr
use Rattle.cmwq_types.specs.declared.instr.WorkId.{WorkId}
use Rattle.cmwq_types.specs.declared.reply.Mode.{Mode}
use Rattle.cmwq_types.specs.declared.reply.Mode.TheVariants.{Runnable, Asleep}
use Rattle.cmwq_types.specs.declared.reply.Place.{Place}
use Rattle.cmwq_types.specs.declared.reply.Place.TheVariants as place
use Rattle.cmwq_types.specs.declared.reply.Reply.{Reply}
use Rattle.cmwq_table.specs.Counts.{burns, is_rescuer, runs}
use Rattle.cmwq_table.specs.State.{State, pending_at, running_at, start}
use Rattle.cmwq_table.specs.Table.{is_question, table}
use Rattle.cmwq_table.specs.declared.state.Pending.{Pending}
use Rattle.cmwq_table.specs.declared.state.Running.{Running}
use Rattle.cmwq_picture.specs.Arming.{armer, in_tick, marked}
use Rattle.cmwq_picture.specs.PictureContents.{RowContents}
use Rattle.cmwq_picture.specs.declared.arming.Arming.{Arming}
use Rattle.cmwq_picture.specs.declared.cell.Cell.{Cell}
use Rattle.cmwq_picture.specs.declared.cell.Cell.TheVariants.{Empty, Does, Burner, Acts, Lasts, Armed}
use Rattle.cmwq_picture.specs.declared.cell.Sign.{Sign}
use Rattle.cmwq_picture.specs.declared.cell.Sign.TheVariants as sign
use Rattle.cmwq_picture.specs.declared.row.Act.{Act}
use Rattle.cmwq_picture.specs.declared.row.Title.{Title}
use Rattle.cmwq_picture.specs.declared.row.Title.TheVariants as title
use Rattle.cmwq_drawing.specs.declared.drawing.Span.{Span}
use Rattle.cmwq_table.specs.Events.{is_refusal}

-- the numbers below n
abbrev pub below : ℕ → List ℕ
below n = range_with_len 0 n

-- Columns.

-- the states just before each instruction that lets time pass, in order
abbrev pub ticks_from : ScenarioContents → State → List Instr → List State
ticks_from S s [] = []
ticks_from S s (i ∷ is) =
    (if nat_lt s.time (table S s i).0.time then s ∷ [] else []) ++ ticks_from S (table S s i).0 is

-- the time from which on ticks are drawn
abbrev pub from_time : Option ℕ → ℕ
from_time (Some from) = from
from_time None = 0

abbrev pub is_before : ℕ → Option ℕ → Bool
is_before time (Some to) = nat_lt time to
is_before time None = true

abbrev pub is_drawn : Span → ℕ → Bool
is_drawn span time = nat_le (from_time span.from) time && is_before time span.to

-- the states just before the ticks that are drawn
abbrev pub columns : ScenarioContents → List Instr → Span → List State
columns S instrs span = filter (λ s. is_drawn span s.time) (ticks_from S (start S) instrs)

-- Signs.

abbrev pub mode_sign : Mode → Sign
mode_sign Runnable = sign.Waits
mode_sign (Asleep until) = sign.Sleeps

-- what a work does that runs so
abbrev pub run_sign : ScenarioContents → State → ℕ → Running → Sign
run_sign S s w r = if burns S s w (Some r) then sign.Burns else mode_sign r.mode

-- what it does while it is pending there
abbrev pub place_sign : Place → Sign
place_sign (place.Timer due cpu) = sign.Timed
place_sign (place.Inactive pool) = sign.Inactive
place_sign (place.Listed pool) = sign.Listed
place_sign (place.Deferred pool) = sign.Deferred

abbrev pub pending_cell : Option Pending → Cell
pending_cell (Some p) = Does (place_sign p.place)
pending_cell None = Empty

-- of a work: its run, else its pending instance
abbrev pub run_or_pending : ScenarioContents → State → ℕ → Option Running → Cell
run_or_pending S s w (Some r) = Does (run_sign S s w r)
run_or_pending S s w None = pending_cell (pending_at s w)

abbrev pub work_sign : ScenarioContents → State → ℕ → Cell
work_sign S s w = run_or_pending S s w (running_at s w)

-- the pending instance of a work that runs
abbrev pub second_cell : Option Running → Option Pending → Cell
second_cell (Some r) p = pending_cell p
second_cell None p = Empty

abbrev pub pending_sign : State → ℕ → Cell
pending_sign s w = second_cell (running_at s w) (pending_at s w)

-- a work that is pending or runs waits unless it burns
abbrev pub is_waiting_sign : Sign → Bool
is_waiting_sign sign.Burns = false
is_waiting_sign other = true

abbrev pub shows_waiting : Cell → Bool
shows_waiting (Does sign) = is_waiting_sign sign
shows_waiting (Armed by) = true
shows_waiting other = false

-- Who burns.

-- whether a work that burns in the pool, on the worker, stands in the row: on the CPU whose normal or high pool it is, on a
-- worker of an unbound pool, or on its queue's rescuer there
abbrev pub stands_in : ScenarioContents → Title → ℕ → ℕ → ℕ → Bool
stands_in S (title.Cpu cpu) w pool worker = not (is_unbound S pool) && (pool / 2 == cpu)
stands_in S (title.Worker unbound number) w pool worker = (pool == unbound) && (worker == number)
stands_in S (title.Rescuer queue) w pool worker = is_unbound S pool && is_rescuer worker && (queue_of S w == queue.0)
stands_in S other w pool worker = false

abbrev pub burns_in : ScenarioContents → State → Title → ℕ → Bool
burns_in S s title w = burns S s w (running_at s w) && runs (λ r. stands_in S title w r.pool r.worker) (running_at s w)

abbrev pub burner_cell : Option ℕ → Cell
burner_cell (Some w) = Burner (record { 0 = w })
burner_cell None = Empty

-- the work that burns there; the first by number, if there were several
abbrev pub burner : ScenarioContents → State → Title → Cell
burner S s title = burner_cell (find (burns_in S s title) (below (length S.works)))

-- What the actor did.

-- a move of the machine's own, which an actor only lets it make
abbrev pub is_own_move : Instr → Bool
is_own_move instr.Fire = true
is_own_move (instr.Step pool) = true
is_own_move instr.Tick = true
is_own_move instr.Next = true
is_own_move (instr.Until time) = true
is_own_move (instr.Wait flush) = true
is_own_move instr.Quiet = true
is_own_move i = false

-- the actor did something: it neither let the machine move, nor asked, nor was refused
abbrev pub is_act : Instr → Reply → Bool
is_act i answer = not (is_own_move i || is_question i || is_refusal answer)

-- what the actor did, and when
abbrev pub acts_from : ScenarioContents → State → List Instr → List Act
acts_from S s [] = []
acts_from S s (i ∷ is) =
    (if is_act i (table S s i).1 then record { time = s.time; instr = i } ∷ [] else []) ++ acts_from S (table S s i).0 is

-- whether it did something at this time
abbrev pub acted_at : List Act → ℕ → Bool
acted_at acts time = list_any (λ act. act.time == time) acts

abbrev pub act_cell : Bool → Cell
act_cell true = Acts
act_cell false = Empty

-- What is told of a tick, besides its state: whether the actor did something, and the timers that bodies set.

pub record Deeds : Type 0 where
  pub acted : Bool
  pub armed : List Arming

abbrev pub deeds_of : Bool → List Arming → Deeds
deeds_of acted armed = record { acted = acted; armed = armed }

-- of the tick that begins at this time, of all that the actor did and that bodies set
abbrev pub deeds_at : List Act → List Arming → ℕ → Deeds
deeds_at acts armings time = deeds_of (acted_at acts time) (in_tick armings time)

-- Freezes, and memory pressure.

abbrev pub lasting_cell : Bool → Cell
lasting_cell true = Lasts
lasting_cell false = Empty

-- Rows.

-- what a work's two rows show at the state just before a tick, in which bodies set these timers
abbrev pub work_shown : ScenarioContents → List Arming → State → ℕ → Cell
work_shown S armed s w = marked (armer armed w (pending_at s w)) (work_sign S s w)

abbrev pub pending_shown : List Arming → State → ℕ → Cell
pending_shown armed s w = marked (armer armed w (pending_at s w)) (pending_sign s w)

-- the cell of a row at the state just before a tick, of which this is told
abbrev pub cell : ScenarioContents → Deeds → Title → State → Cell
cell S deeds (title.Work w) s = work_shown S deeds.armed s w.0
cell S deeds (title.Pending w) s = pending_shown deeds.armed s w.0
cell S deeds (title.Cpu cpu) s = burner S s (title.Cpu cpu)
cell S deeds (title.Worker pool worker) s = burner S s (title.Worker pool worker)
cell S deeds (title.Rescuer queue) s = burner S s (title.Rescuer queue)
cell S deeds title.Frozen s = lasting_cell s.frozen
cell S deeds title.Pressed s = lasting_cell s.pressed
cell S deeds title.Actor s = act_cell deeds.acted

-- the row of a CPU and that of the actor always stand
abbrev pub stands_empty : Title → Bool
stands_empty (title.Cpu cpu) = true
stands_empty title.Actor = true
stands_empty other = false

abbrev pub is_empty_cell : Cell → Bool
is_empty_cell Empty = true
is_empty_cell other = false

abbrev pub stands_in_picture : RowContents → Bool
stands_in_picture row = stands_empty row.title || list_any (λ cell. not (is_empty_cell cell)) row.cells

abbrev pub work_titles : ℕ → List Title
work_titles w = title.Work (record { 0 = w }) ∷ title.Pending (record { 0 = w }) ∷ []

abbrev pub worker_titles : ScenarioContents → ℕ → List Title
worker_titles S pool = map (λ worker. title.Worker pool worker) (below S.workers)

-- whether the work has rows: one of these alone, where they are given
abbrev pub is_picked : Option (List WorkId) → ℕ → Bool
is_picked (Some works) w = list_any (λ work. work.0 == w) works
is_picked None w = true

-- all rows that can stand, from the top: works, CPUs, the workers of the two unbound pools, rescuers, freezes, pressure, and the actor
abbrev pub titles : ScenarioContents → Option (List WorkId) → List Title
titles S picked =
    flat_map work_titles (filter (is_picked picked) (below (length S.works))) ++ map (λ cpu. title.Cpu cpu) (below S.cpus)
    ++ flat_map (worker_titles S) (range_with_len (2 * S.cpus) 2)
    ++ map (λ queue. title.Rescuer (record { 0 = queue })) (below (length S.queues))
    ++ title.Frozen ∷ title.Pressed ∷ title.Actor ∷ []
