-- Worked examples of pictures: a scenario, the lines of its one actor, a span, and the picture's rows.
use Rattle.std.specs.Prelude.{ℕ, List, [], ◌∷◌, Some, None, true, false, codes, map}
use Rattle.cmwq_types.specs.Contents.{ScenarioContents}
use Rattle.cmwq_types.specs.Scenario.{expand_lines, plain_flags}
use Rattle.cmwq_types.specs.declared.instr.Instr.{Instr}
use Rattle.cmwq_types.specs.declared.instr.Instr.TheVariants as instr
use Rattle.cmwq_types.specs.declared.scenario.Line.{Line}
use Rattle.cmwq_types.specs.declared.scenario.Op.{Op}
use Rattle.cmwq_types.specs.declared.scenario.Op.TheVariants as op
use Rattle.cmwq_examples.specs.Declare.{cancel, delay, enqueue, highpri, queue, queues, scenario, state, times, unbound, work}
use Rattle.cmwq_picture.specs.PictureContents.{PictureContents, RowContents}
use Rattle.cmwq_picture.specs.PictureOfRun.{picture}
use Rattle.cmwq_picture.specs.declared.row.Act.{Act}
use Rattle.cmwq_picture.specs.declared.cell.Cell.{Cell}
use Rattle.cmwq_picture.specs.declared.cell.Cell.TheVariants.{Empty, Does, Burner, Acts, Lasts, Armed}
use Rattle.cmwq_picture.specs.declared.cell.Sign.TheVariants.{Burns, Waits, Sleeps, Listed, Inactive, Timed, Deferred}
use Rattle.cmwq_picture.specs.declared.row.Title.{Title}
use Rattle.cmwq_picture.specs.declared.row.Title.TheVariants as title
use Rattle.cmwq_drawing.specs.declared.drawing.Span.{Span}

-- Short words for pictures.

abbrev pub pictured : ScenarioContents → List Line → Span → PictureContents
pictured S lines span = picture S (expand_lines lines) (record { span = span; fold = false; works = None })

abbrev pub act_at : ℕ → Instr → Act
act_at time i = record { time = time; instr = i }

-- the whole run
abbrev pub whole : Span
whole = record { from = None; to = None }

-- folded, with rows of these works alone
abbrev pub folded : ScenarioContents → List Line → List ℕ → PictureContents
folded S lines works =
    picture S (expand_lines lines) (record { span = whole; fold = true; works = Some (map (λ w. record { 0 = w }) works) })

-- the ticks from one time on, before another
abbrev pub between : ℕ → ℕ → Span
between from to = record { from = Some from; to = Some to }

abbrev pub row_of_cells : Title → List Cell → RowContents
row_of_cells title cells = record { title = title; cells = cells }

abbrev pub work_row : ℕ → List Cell → RowContents
work_row w cells = row_of_cells (title.Work (record { 0 = w })) cells

abbrev pub pending_row : ℕ → List Cell → RowContents
pending_row w cells = row_of_cells (title.Pending (record { 0 = w })) cells

abbrev pub work_burns : ℕ → Cell
work_burns w = Burner (record { 0 = w })

-- Two works share a CPU, and their queue is for two: a third one waits for room.

abbrev pub sharing : ScenarioContents
sharing =
    scenario 1000 (queue (codes "q") 2 plain_flags ∷ [])
    (work (codes "a") 0 (op.Burn 1 ∷ op.Sleep 2 ∷ op.Finish ∷ []) ∷ work (codes "b") 0 (op.Burn 2 ∷ op.Finish ∷ [])
    ∷ work (codes "c") 0 (op.Burn 1 ∷ op.Finish ∷ []) ∷ []) []

-- at time 2 there are an instruction that is refused, and a question
abbrev pub sharing_lines : List Line
sharing_lines =
    enqueue 0 0 ∷ enqueue 1 0 ∷ times instr.Next 3 ∷ enqueue 2 0 ∷ times instr.Next 4 ∷ enqueue 0 1 ∷ state 0 ∷ times instr.Next 9 ∷ []

-- nothing is done in the last tick
abbrev pub sharing_picture : PictureContents
sharing_picture =
    record {
      edges = 0 ∷ 1 ∷ 2 ∷ 3 ∷ 4 ∷ 5 ∷ [];
      rows =
          work_row 0 (Does Burns ∷ Does Sleeps ∷ Does Sleeps ∷ Empty ∷ Empty ∷ [])
          ∷ work_row 1 (Does Listed ∷ Does Burns ∷ Does Burns ∷ Empty ∷ Empty ∷ [])
          ∷ work_row 2 (Empty ∷ Does Inactive ∷ Does Inactive ∷ Does Burns ∷ Empty ∷ [])
          ∷ row_of_cells (title.Cpu 0) (work_burns 0 ∷ work_burns 1 ∷ work_burns 1 ∷ work_burns 2 ∷ Empty ∷ [])
          ∷ row_of_cells title.Actor (Acts ∷ Acts ∷ Empty ∷ Empty ∷ Empty ∷ []) ∷ [];
      acts = act_at 0 (instr.Queue (record { 0 = 0 }) 0) ∷ act_at 0 (instr.Queue (record { 0 = 1 }) 0) ∷ act_at 1 (instr.Queue (record { 0 = 2 }) 0) ∷ [];
    }

-- A work of high priority takes the CPU from another one, which waits for it.

abbrev pub taken_cpu : ScenarioContents
taken_cpu =
    scenario 1000 (queue (codes "n") 1 plain_flags ∷ queue (codes "h") 1 highpri ∷ [])
    (work (codes "a") 0 (op.Burn 3 ∷ op.Finish ∷ []) ∷ work (codes "b") 1 (op.Burn 1 ∷ op.Finish ∷ []) ∷ []) []

abbrev pub taken_cpu_lines : List Line
taken_cpu_lines = enqueue 0 0 ∷ times instr.Next 3 ∷ enqueue 1 0 ∷ times instr.Next 7 ∷ []

-- the ticks from 1 to 3, of four
abbrev pub taken_cpu_picture : PictureContents
taken_cpu_picture =
    record {
      edges = 1 ∷ 2 ∷ 3 ∷ [];
      rows =
          work_row 0 (Does Waits ∷ Does Burns ∷ []) ∷ work_row 1 (Does Burns ∷ Empty ∷ [])
          ∷ row_of_cells (title.Cpu 0) (work_burns 1 ∷ work_burns 0 ∷ []) ∷ row_of_cells title.Actor (Acts ∷ Empty ∷ []) ∷ [];
      acts = act_at 1 (instr.Queue (record { 0 = 1 }) 0) ∷ [];
    }

-- A work queues itself while it runs: its second instance is listed until the pool's turn comes to it, and then deferred.

abbrev pub queued_while_running : ScenarioContents
queued_while_running =
    scenario 1000 (queue (codes "q") 2 plain_flags ∷ [])
    (work (codes "a") 0 (queues 0 ∷ op.Burn 1 ∷ op.Sleep 1 ∷ op.Finish ∷ []) ∷ []) []

abbrev pub queued_while_running_lines : List Line
queued_while_running_lines = enqueue 0 0 ∷ times instr.Next 7 ∷ []

abbrev pub queued_while_running_picture : PictureContents
queued_while_running_picture =
    record {
      edges = 0 ∷ 1 ∷ 2 ∷ [];
      rows =
          work_row 0 (Does Burns ∷ Does Sleeps ∷ []) ∷ pending_row 0 (Does Listed ∷ Does Deferred ∷ [])
          ∷ row_of_cells (title.Cpu 0) (work_burns 0 ∷ Empty ∷ []) ∷ row_of_cells title.Actor (Acts ∷ Empty ∷ []) ∷ [];
      acts = act_at 0 (instr.Queue (record { 0 = 0 }) 0) ∷ [];
    }

-- A worker of the unbound pool burns beside a rescuer, since there is no other worker; a third work waits for its timer.

abbrev pub rescuer_burns : ScenarioContents
rescuer_burns =
    record
    (scenario 1000
    (queue (codes "u") 1 unbound ∷ queue (codes "m") 1 (record plain_flags { unbound = true; mem_reclaim = true }) ∷ [])
    (work (codes "a") 0 (op.Burn 1 ∷ op.Finish ∷ []) ∷ work (codes "b") 1 (op.Burn 1 ∷ op.Finish ∷ [])
    ∷ work (codes "c") 0 (op.Finish ∷ []) ∷ []) [])
    { workers = 1 }

abbrev pub rescuer_burns_lines : List Line
rescuer_burns_lines = enqueue 0 0 ∷ enqueue 1 0 ∷ delay 2 5 ∷ times instr.Next 5 ∷ []

-- nobody burns on the CPU
abbrev pub rescuer_burns_picture : PictureContents
rescuer_burns_picture =
    record {
      edges = 0 ∷ 1 ∷ [];
      rows =
          work_row 0 (Does Burns ∷ []) ∷ work_row 1 (Does Burns ∷ []) ∷ work_row 2 (Does Timed ∷ [])
          ∷ row_of_cells (title.Cpu 0) (Empty ∷ []) ∷ row_of_cells (title.Worker 2 0) (work_burns 0 ∷ [])
          ∷ row_of_cells (title.Rescuer (record { 0 = 1 })) (work_burns 1 ∷ []) ∷ row_of_cells title.Actor (Acts ∷ []) ∷ [];
      acts = act_at 0 (instr.Queue (record { 0 = 0 }) 0) ∷ act_at 0 (instr.Queue (record { 0 = 1 }) 0) ∷ act_at 0 (instr.Delay (record { 0 = 2 }) 0 5) ∷ [];
    }

-- Bodies set timers. Their marks stand in the ticks in which they did, in the second row of a work that runs.

-- `delay W N` and `mod W N`, as bodies have them
abbrev pub delays : ℕ → ℕ → Op
delays w ticks = op.Delay (record { 0 = w }) ticks

abbrev pub mods : ℕ → ℕ → Op
mods w ticks = op.Mod (record { 0 = w }) ticks

abbrev pub armed_by : ℕ → Cell
armed_by w = Armed (record { 0 = w })

abbrev pub timers_set : ScenarioContents
timers_set =
    scenario 1000 (queue (codes "q") 4 plain_flags ∷ [])
    (work (codes "a") 0 (delays 1 2 ∷ delays 0 3 ∷ op.Burn 1 ∷ mods 1 2 ∷ op.Finish ∷ []) ∷ work (codes "b") 0 (op.Finish ∷ []) ∷ []) []

-- four moves and a tick, two moves and two ticks
abbrev pub timers_set_lines : List Line
timers_set_lines = enqueue 0 0 ∷ times instr.Next 9 ∷ []

-- a sets the timer of b in the first tick, and anew in the second one, and its own in the first
abbrev pub timers_set_picture : PictureContents
timers_set_picture =
    record {
      edges = 0 ∷ 1 ∷ 2 ∷ 3 ∷ [];
      rows =
          work_row 0 (Does Burns ∷ Does Timed ∷ Does Timed ∷ []) ∷ pending_row 0 (armed_by 0 ∷ Empty ∷ Empty ∷ [])
          ∷ work_row 1 (armed_by 0 ∷ armed_by 0 ∷ Does Timed ∷ [])
          ∷ row_of_cells (title.Cpu 0) (work_burns 0 ∷ Empty ∷ Empty ∷ []) ∷ row_of_cells title.Actor (Acts ∷ Empty ∷ Empty ∷ []) ∷ [];
      acts = act_at 0 (instr.Queue (record { 0 = 0 }) 0) ∷ [];
    }

-- Who set a timer last is shown: d of b, which a had set before, and e finds set; and of c nobody, since the actor took it off and set it anew. What d asks
-- for after no ticks is placed.

abbrev pub timers_set_again : ScenarioContents
timers_set_again =
    scenario 1000 (queue (codes "q") 4 plain_flags ∷ [])
    (work (codes "a") 0 (delays 1 5 ∷ delays 2 5 ∷ op.Finish ∷ []) ∷ work (codes "b") 0 (op.Finish ∷ []) ∷ work (codes "c") 0 (op.Finish ∷ [])
    ∷ work (codes "d") 0 (mods 1 4 ∷ delays 4 0 ∷ op.Finish ∷ []) ∷ work (codes "e") 0 (delays 1 9 ∷ op.Burn 1 ∷ op.Finish ∷ []) ∷ []) []

-- four moves of a and four of d; then three of e, a tick, it finishes, and a tick
abbrev pub timers_set_again_lines : List Line
timers_set_again_lines = enqueue 0 0 ∷ enqueue 3 0 ∷ times instr.Next 8 ∷ cancel 2 ∷ delay 2 4 ∷ times instr.Next 6 ∷ []

abbrev pub timers_set_again_picture : PictureContents
timers_set_again_picture =
    record {
      edges = 0 ∷ 1 ∷ 2 ∷ [];
      rows =
          work_row 1 (armed_by 3 ∷ Does Timed ∷ []) ∷ work_row 2 (Does Timed ∷ Does Timed ∷ []) ∷ work_row 4 (Does Burns ∷ Empty ∷ [])
          ∷ row_of_cells (title.Cpu 0) (work_burns 4 ∷ Empty ∷ []) ∷ row_of_cells title.Actor (Acts ∷ Empty ∷ []) ∷ [];
      acts =
          act_at 0 (instr.Queue (record { 0 = 0 }) 0) ∷ act_at 0 (instr.Queue (record { 0 = 3 }) 0) ∷ act_at 0 (instr.Cancel (record { 0 = 2 }))
          ∷ act_at 0 (instr.Delay (record { 0 = 2 }) 0 4) ∷ [];
    }

-- A run in which no tick passes has the rows that always stand, and no column.

abbrev pub empty_picture : PictureContents
empty_picture = record { edges = 0 ∷ []; rows = row_of_cells (title.Cpu 0) [] ∷ row_of_cells title.Actor [] ∷ []; acts = [] }

-- A work sleeps for 22 ticks while there is a freeze; another one, whose row isn't asked for, waits behind it. The sleep but for its first tick, at
-- which the actor freezes, has one column.

abbrev pub long_sleep : ScenarioContents
long_sleep =
    scenario 1000 (queue (codes "q") 1 plain_flags ∷ [])
    (work (codes "a") 0 (op.Burn 1 ∷ op.Sleep 23 ∷ op.Finish ∷ []) ∷ work (codes "b") 0 (op.Finish ∷ []) ∷ []) []

abbrev pub long_sleep_lines : List Line
long_sleep_lines = enqueue 0 0 ∷ enqueue 1 0 ∷ times instr.Next 3 ∷ times instr.Freeze 1 ∷ times instr.Next 26 ∷ times instr.Thaw 1 ∷ []

abbrev pub long_sleep_picture : PictureContents
long_sleep_picture =
    record {
      edges = 0 ∷ 1 ∷ 2 ∷ 24 ∷ [];
      rows =
          work_row 0 (Does Burns ∷ Does Sleeps ∷ Does Sleeps ∷ []) ∷ row_of_cells (title.Cpu 0) (work_burns 0 ∷ Empty ∷ Empty ∷ [])
          ∷ row_of_cells title.Frozen (Empty ∷ Lasts ∷ Lasts ∷ []) ∷ row_of_cells title.Actor (Acts ∷ Acts ∷ Empty ∷ []) ∷ [];
      acts = act_at 0 (instr.Queue (record { 0 = 0 }) 0) ∷ act_at 0 (instr.Queue (record { 0 = 1 }) 0) ∷ act_at 1 instr.Freeze ∷ act_at 24 instr.Thaw ∷ [];
    }
