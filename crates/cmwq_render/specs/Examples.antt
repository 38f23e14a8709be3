-- Worked pictures as text, written by hand.
use Rattle.std.specs.Prelude.{ℕ, ◌+◌, List, [], ◌∷◌, ◌++◌, codes, map, replicate}
use Rattle.std.specs.List.{range_with_len}
use Rattle.cmwq_types.specs.Contents.{ScenarioContents, WorkContents}
use Rattle.cmwq_types.specs.Scenario.{plain_flags}
use Rattle.cmwq_types.specs.declared.instr.Instr.TheVariants as instr
use Rattle.cmwq_types.specs.declared.instr.WorkId.{WorkId}
use Rattle.cmwq_picture.specs.declared.row.Act.{Act}
use Rattle.cmwq_picture.specs.PictureContents.{PictureContents, RowContents}
use Rattle.cmwq_picture.specs.declared.cell.Cell.{Cell}
use Rattle.cmwq_picture.specs.declared.cell.Cell.TheVariants.{Empty, Does, Burner, Acts, Lasts, Armed}
use Rattle.cmwq_picture.specs.declared.cell.Sign.{Sign}
use Rattle.cmwq_picture.specs.declared.cell.Sign.TheVariants as sign
use Rattle.cmwq_picture.specs.declared.row.Title.{Title}
use Rattle.cmwq_picture.specs.declared.row.Title.TheVariants as title
use Rattle.cmwq_types.specs.Listing.{text_of_lines}

abbrev pub named_work : List ℕ → WorkContents
named_work name = record { name = name; queue = record { 0 = 0 }; body = [] }

-- a scenario with a queue q and these works
abbrev pub names : List WorkContents → ScenarioContents
names works =
    record {
      cpus = 1;
      workers = 4;
      steps = 1000;
      flushes = 0;
      queues = record { name = codes "q"; max = 3; flags = plain_flags } ∷ [];
      works = works;
      actors = [];
    }

abbrev pub drawn_row : Title → List Cell → RowContents
drawn_row title cells = record { title = title; cells = cells }

abbrev pub id : ℕ → WorkId
id w = record { 0 = w }

-- the actor queues the work on CPU 0
abbrev pub queued : ℕ → ℕ → Act
queued time w = record { time = time; instr = instr.Queue (id w) 0 }

abbrev pub for : ℕ → Sign → List Cell
for n s = replicate n (Does s)

abbrev pub empty_cells : ℕ → List Cell
empty_cells n = replicate n Empty

-- the first table of the kernel's document
abbrev pub three_names : ScenarioContents
three_names = names (named_work (codes "w0") ∷ named_work (codes "w1") ∷ named_work (codes "w2") ∷ [])

abbrev pub first_table : PictureContents
first_table =
    record {
      edges = range_with_len 0 26;
      rows =
          drawn_row (title.Work (id 0)) (for 5 sign.Burns ++ for 10 sign.Sleeps ++ for 5 sign.Burns ++ empty_cells 5)
          ∷ drawn_row (title.Work (id 1)) (for 5 sign.Listed ++ for 5 sign.Burns ++ for 10 sign.Sleeps ++ empty_cells 5)
          ∷ drawn_row (title.Work (id 2)) (for 10 sign.Listed ++ for 5 sign.Burns ++ for 10 sign.Sleeps)
          ∷ drawn_row (title.Cpu 0) (replicate 5 (Burner (id 0)) ++ replicate 5 (Burner (id 1)) ++ replicate 5 (Burner (id 2)) ++ replicate 5 (Burner (id 0)) ++ empty_cells 5)
          ∷ drawn_row title.Actor (Acts ∷ empty_cells 24) ∷ [];
      acts = queued 0 0 ∷ queued 0 1 ∷ queued 0 2 ∷ [];
    }

abbrev pub first_table_text : List ℕ
first_table_text =
    text_of_lines (
    codes "     0    5    10   15   20   25" ∷
    codes "0 w0 |#####..........#####     |" ∷
    codes "1 w1 |-----#####..........     |" ∷
    codes "2 w2 |----------#####..........|" ∷
    codes "cpu 0|00000111112222200000     |" ∷
    codes "actor|^                        |" ∷
    codes "# burns  . asleep  - listed  ^ the actor acts" ∷
    codes "^ at 0: queue w0 0, queue w1 0, queue w2 0" ∷ [])

-- each sign, and each kind of row
abbrev pub each_sign : PictureContents
each_sign =
    record {
      edges = range_with_len 7 8 ++ 50 ∷ 51 ∷ [];
      rows =
          drawn_row (title.Work (id 0)) (for 1 sign.Burns ++ for 1 sign.Waits ++ for 1 sign.Sleeps ++ for 1 sign.Listed ++ for 1 sign.Inactive ++ for 1 sign.Timed ++ empty_cells 3)
          ∷ drawn_row (title.Pending (id 0)) (for 2 sign.Deferred ++ empty_cells 7)
          ∷ drawn_row (title.Work (id 1)) (for 1 sign.Listed ++ empty_cells 8)
          ∷ drawn_row (title.Worker 2 11) (empty_cells 1 ++ replicate 2 (Burner (id 1)) ++ empty_cells 6)
          ∷ drawn_row (title.Rescuer (record { 0 = 0 })) (empty_cells 8 ++ replicate 1 (Burner (id 0)))
          ∷ drawn_row title.Frozen (Empty ∷ replicate 2 Lasts ++ empty_cells 6)
          ∷ drawn_row title.Pressed (empty_cells 6 ++ Lasts ∷ empty_cells 2)
          ∷ drawn_row title.Actor (empty_cells 8 ++ Acts ∷ []) ∷ [];
      acts = queued 7 1 ∷ queued 50 0 ∷ record { time = 50; instr = instr.Thaw } ∷ [];
    }

abbrev pub each_sign_text : List ℕ
each_sign_text =
    text_of_lines (
    codes "           7    12" ∷
    codes "a          |#=.-x~   |" ∷
    codes "a+         |++       |" ∷
    codes "b bc       |-        |" ∷
    codes "worker 2/11| bb      |" ∷
    codes "rescuer q  |        a|" ∷
    codes "frozen     | **      |" ∷
    codes "pressure   |      *  |" ∷
    codes "actor      |        ^|" ∷
    codes "gap        |       : |" ∷
    codes "# burns  = runnable, without the CPU  . asleep  - listed  x inactive  ~ on a timer  + deferred  * in effect  ^ the actor acts" ∷
    codes ": 36 ticks from 14 on: nothing changes" ∷
    codes "^ at 7: queue bc 0" ∷
    codes "^ at 50: queue a 0, thaw" ∷ [])

-- tick sets the timer of job, and its own while it runs; job is on its timer, then is listed
abbrev pub armed_names : ScenarioContents
armed_names = names (named_work (codes "tick") ∷ named_work (codes "job") ∷ [])

abbrev pub armed_rows : PictureContents
armed_rows =
    record {
      edges = range_with_len 0 5;
      rows =
          drawn_row (title.Work (id 0)) (for 3 sign.Burns ++ for 1 sign.Timed)
          ∷ drawn_row (title.Pending (id 0)) (empty_cells 1 ++ Armed (id 0) ∷ for 1 sign.Timed ++ empty_cells 1)
          ∷ drawn_row (title.Work (id 1)) (Armed (id 0) ∷ for 2 sign.Timed ++ for 1 sign.Listed)
          ∷ drawn_row (title.Cpu 0) (replicate 3 (Burner (id 0)) ++ empty_cells 1) ∷ [];
      acts = [];
    }

-- the letter of tick, whose row it isn't in one of them
abbrev pub armed_rows_text : List ℕ
armed_rows_text =
    text_of_lines (
    codes "       0" ∷
    codes "t tick |###~|" ∷
    codes "t tick+| t~ |" ∷
    codes "j job  |t~~-|" ∷
    codes "cpu 0  |ttt |" ∷
    codes "# burns  - listed  ~ on a timer" ∷
    codes "letter: on a timer set by that work" ∷ [])

-- a row without a cell, whose times are these
abbrev pub only_times : ℕ → ℕ → PictureContents
only_times from ticks = record { edges = range_with_len from (ticks + 1); rows = drawn_row (title.Cpu 0) [] ∷ []; acts = [] }

-- up to 9999 there is a time each 5 ticks
abbrev pub short_times_text : List ℕ
short_times_text = text_of_lines (codes "     9979 9984 9989 9994 9999" ∷ codes "cpu 0||" ∷ [])

-- from 10000 on each 20
abbrev pub long_times_text : List ℕ
long_times_text = text_of_lines (codes "     9980                10000" ∷ codes "cpu 0||" ∷ [])

-- Letters.

abbrev pub named : List (List ℕ) → ScenarioContents
named of = names (map named_work of)

-- t begins the last work's name, and x is a sign
abbrev pub alike : ScenarioContents
alike = named (codes "tx" ∷ codes "ty" ∷ codes "t" ∷ codes "t_3" ∷ [])

-- what begins a later work's name isn't given before
abbrev pub kept_free : ScenarioContents
kept_free = named (codes "xb" ∷ codes "xc" ∷ codes "b" ∷ codes "xa" ∷ [])

-- a work that is called as a sign is
abbrev pub called_as_a_sign : ScenarioContents
called_as_a_sign = named (codes "x" ∷ codes "b" ∷ [])

-- so many works of one name
abbrev pub namesakes : ℕ → ScenarioContents
namesakes n = named (replicate n (codes "xy"))

abbrev pub last_of_63 : PictureContents
last_of_63 =
    record {
      edges = 0 ∷ 1 ∷ [];
      rows = drawn_row (title.Work (id 62)) (for 1 sign.Burns) ∷ drawn_row (title.Cpu 0) (Burner (id 62) ∷ []) ∷ [];
      acts = [];
    }

-- without letters who burns is told by the first of the name
abbrev pub last_of_63_text : List ℕ
last_of_63_text = text_of_lines (codes "     0" ∷ codes "xy   |#|" ∷ codes "cpu 0|x|" ∷ codes "# burns" ∷ [])
