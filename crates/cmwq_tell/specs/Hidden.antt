-- What an instruction changes that its reply doesn't tell, and the line of each such change.
use Rattle.std.specs.Prelude.{ℕ, List, [], ◌∷◌, ◌++◌, map, codes, if◌then◌else◌, nat_lt, ◌==◌, Option, Some, None, option_to_list}
use Rattle.std.specs.Fmt.{decimal}
use Rattle.cmwq_types.specs.Contents.{ScenarioContents}
use Rattle.cmwq_types.specs.declared.instr.WorkId.{WorkId}
use Rattle.cmwq_types.specs.declared.reply.Place.{Place}
use Rattle.cmwq_types.specs.declared.reply.Place.TheVariants.{Timer, Inactive, Listed, Deferred}
use Rattle.cmwq_types.specs.declared.reply.Reply.{Reply}
use Rattle.cmwq_types.specs.declared.reply.Reply.TheVariants as reply
use Rattle.cmwq_types.specs.declared.reply.WorkRun.{WorkRun}
use Rattle.cmwq_table.specs.Events.{place_text, run_text, work_name}
use Rattle.cmwq_table.specs.State.{State, running_at}
use Rattle.cmwq_table.specs.Table.{run_of}
use Rattle.cmwq_table.specs.View.{entries_from}
use Rattle.cmwq_table.specs.declared.state.Pending.{Pending}
use Rattle.cmwq_table.specs.Told.{is_start}
use Rattle.cmwq_tell.specs.declared.change.Change.{Change}
use Rattle.cmwq_tell.specs.declared.change.Change.TheVariants as change

-- a pending work in its place among others: before the first one of a later stamp
abbrev pub put_by_stamp : WorkId × Pending → List (WorkId × Pending) → List (WorkId × Pending)
put_by_stamp entry [] = entry ∷ []
put_by_stamp entry (other ∷ others) =
    if nat_lt entry.1.stamp other.1.stamp then entry ∷ other ∷ others else other ∷ put_by_stamp entry others

-- of these the ones whose stamp isn't below, by stamp
abbrev pub stamped_from : ℕ → List (WorkId × Pending) → List (WorkId × Pending)
stamped_from next [] = []
stamped_from next (entry ∷ entries) =
    if nat_lt entry.1.stamp next then stamped_from next entries else put_by_stamp entry (stamped_from next entries)

-- the number of the pool in which a work is placed
abbrev pub pool_of_place : Place → ℕ
pool_of_place (Inactive pool) = pool
pool_of_place (Listed pool) = pool
pool_of_place (Deferred pool) = pool
pool_of_place (Timer due cpu) = 0

-- What became of a work that has a new stamp. It was pending before where its birth is older than that, and then it was inactive.
abbrev pub change_of : ℕ → WorkId × Pending → Change
change_of next entry =
    if nat_lt entry.1.born next then change.Activated entry.0 (pool_of_place entry.1.place) else change.Placed entry.0 entry.1.place

abbrev pub passing : ℕ → ℕ → List Change
passing before now = if now == before then [] else change.Now now ∷ []

-- The start of which the reply tells, with the pool and the worker that have the work then.
abbrev pub start_on : WorkId → Option WorkRun → Option Change
start_on work (Some run) = Some (change.Started work run)
start_on work None = None

abbrev pub start_told : State → Reply → Option Change
start_told after (reply.Event work event) = if is_start event then start_on work (run_of (running_at after work.0)) else None
start_told after other = None

-- The hidden changes from one state to the next, which an instruction makes that is given this reply: that time passed, where a work
-- starts, and then by stamp each pending work that has a new one.
abbrev pub hidden : State → State → Reply → List Change
hidden s after told =
    passing s.time after.time ++ option_to_list (start_told after told)
    ++ map (change_of s.next) (stamped_from s.next (entries_from 0 after.pending))

-- Their lines.

-- the CPU of a timer
abbrev pub timer_cpu_text : Place → List ℕ
timer_cpu_text (Timer due cpu) = codes " cpu " ++ decimal cpu
timer_cpu_text (Inactive pool) = []
timer_cpu_text (Listed pool) = []
timer_cpu_text (Deferred pool) = []

abbrev pub change_text : ScenarioContents → Change → List ℕ
change_text S (change.Now now) = codes "now " ++ decimal now
change_text S (change.Started work run) = work_name S work ++ codes " " ++ run_text (Some run)
change_text S (change.Activated work pool) = work_name S work ++ codes " activated " ++ decimal pool
change_text S (change.Placed work place) = work_name S work ++ codes " " ++ place_text (Some place) ++ timer_cpu_text place

abbrev pub change_line : ScenarioContents → Change → List ℕ
change_line S change = codes "#   " ++ change_text S change ++ 10 ∷ []
