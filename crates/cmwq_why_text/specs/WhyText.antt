-- Why a work isn't further, as text. It is read off one state; `w` is the work.
use Rattle.std.specs.Prelude.{ℕ, not, ◌&&◌, List, [], ◌∷◌, ◌++◌, map, Option, Some, None, codes, if◌then◌else◌, is_none, nat_lt}
use Rattle.std.specs.Fmt.{decimal}
use Rattle.std.specs.List.{flat_map}
use Rattle.cmwq_types.specs.Contents.{ScenarioContents}
use Rattle.cmwq_types.specs.Places.{is_deferred}
use Rattle.cmwq_types.specs.Scenario.{queue_at, queue_of, work_at}
use Rattle.cmwq_types.specs.declared.reply.Mode.{Mode}
use Rattle.cmwq_types.specs.declared.reply.Mode.TheVariants as mode
use Rattle.cmwq_types.specs.declared.reply.Place.TheVariants as place
use Rattle.cmwq_table.specs.Counts.{active, is_rescuer, limit}
use Rattle.cmwq_table.specs.State.{State, is_disabled, pending_at, running_at}
use Rattle.cmwq_table.specs.declared.state.Pending.{Pending}
use Rattle.cmwq_table.specs.declared.state.Running.{Running}
use Rattle.cmwq_reasons.specs.Reasons.{ahead, counted_works, holders, reason_if_running, reason_of_pending, running_half, work_of, works_on_workers}
use Rattle.cmwq_reasons.specs.declared.reason.Instance.{Instance}
use Rattle.cmwq_reasons.specs.declared.reason.Instance.TheVariants as instance
use Rattle.cmwq_reasons.specs.declared.reason.Reason.{Reason}
use Rattle.cmwq_reasons.specs.declared.reason.Reason.TheVariants as reason
use Rattle.cmwq_reasons.specs.declared.reason.Turn.{Turn}
use Rattle.cmwq_reasons.specs.declared.reason.Turn.TheVariants.{Starts, Defers, StartsOnRescuer}

abbrev pub name_of : ScenarioContents → ℕ → List ℕ
name_of S w = (work_at S w).name

abbrev pub spaced_name : ScenarioContents → ℕ → List ℕ
spaced_name S w = 32 ∷ name_of S w

abbrev pub queue_name : ScenarioContents → ℕ → List ℕ
queue_name S w = (queue_at S (queue_of S w)).name

-- What the instances do that a reason names.

abbrev pub mode_words : Mode → List ℕ
mode_words mode.Runnable = codes " runs"
mode_words (mode.Asleep until) = codes " asleep until " ++ decimal until

abbrev pub rescuer_text : ℕ → List ℕ
rescuer_text worker = if is_rescuer worker then codes " on rescuer" else []

abbrev pub run_words : Option Running → List ℕ
run_words (Some r) = mode_words r.mode ++ rescuer_text r.worker
run_words None = []

abbrev pub place_words : Option Pending → List ℕ
place_words (Some p) = if is_deferred p.place then codes " deferred" else codes " listed"
place_words None = []

abbrev pub item : ScenarioContents → State → Instance → List ℕ
item S s (instance.Pending w) = name_of S w.0 ++ place_words (pending_at s w.0)
item S s (instance.Running w) = name_of S w.0 ++ run_words (running_at s w.0)

-- the items, each but the first behind a comma, and the first behind a colon; nothing where there are none
abbrev pub later_item : ScenarioContents → State → Instance → List ℕ
later_item S s x = codes ", " ++ item S s x

abbrev pub items : ScenarioContents → State → List Instance → List ℕ
items S s [] = []
items S s (x ∷ xs) = codes ": " ++ item S s x ++ flat_map (later_item S s) xs

-- What is said of a pending work in a pool.

-- who stands before it, behind a space; nothing where nobody does
abbrev pub ahead_text : ScenarioContents → List ℕ → List ℕ
ahead_text S [] = []
ahead_text S (v ∷ vs) = codes " ahead" ++ spaced_name S v ++ flat_map (spaced_name S) vs

abbrev pub listed_text : ScenarioContents → State → ℕ → ℕ → List ℕ
listed_text S s w pool = codes "listed " ++ decimal pool ++ ahead_text S (ahead S s w (place.Listed pool)) ++ codes ": "

abbrev pub inactive_text : ScenarioContents → State → ℕ → ℕ → List ℕ
inactive_text S s w pool =
    codes "inactive " ++ decimal pool ++ ahead_text S (ahead S s w (place.Inactive pool)) ++ codes ": " ++ queue_name S w

-- how much of its queue's limit is taken up, and by whom
abbrev pub room_text : ScenarioContents → State → ℕ → ℕ → List ℕ
room_text S s queue pool =
    codes " has " ++ decimal (active S s queue pool) ++ codes " of " ++ decimal (limit S s queue) ++ codes " active"
    ++ items S s (holders S s queue pool)

abbrev pub turn_text : Turn → List ℕ
turn_text Starts = codes "starts next"
turn_text Defers = codes "defers next"
turn_text StartsOnRescuer = codes "starts next on rescuer"

-- until when a timer runs, and on which CPU it places its work then
abbrev pub cpu_text : ℕ → List ℕ
cpu_text cpu = codes " cpu " ++ decimal cpu

abbrev pub timer_text : ℕ → ℕ → List ℕ
timer_text due cpu = codes "timer until " ++ decimal due ++ cpu_text cpu

-- that there is no free worker, and whether memory is short
abbrev pub worker_words : State → List ℕ
worker_words s = if s.pressed then codes "no free worker under pressure" else codes "no free worker"

-- the text of a reason, by whether the work waits in a pool: there it tells who stands before it, and who holds it

abbrev pub plain_text : ScenarioContents → Reason → List ℕ
plain_text S (reason.Asleep until) = codes "asleep until " ++ decimal until
plain_text S reason.WakesNext = codes "sleep is over, wakes next"
plain_text S (reason.WakesAfter x) = codes "sleep is over, after " ++ name_of S (work_of x)
plain_text S (reason.Behind v) = codes "runnable, behind " ++ name_of S v.0
plain_text S reason.ReadyNext = codes "ready, goes on next"
plain_text S (reason.ReadyAfter x) = codes "ready, after " ++ name_of S (work_of x)
plain_text S (reason.HighHas v) = codes "runnable, high " ++ name_of S v.0 ++ codes " has the CPU"
plain_text S reason.Burns = codes "burns"
plain_text S (reason.Disabled depth) = codes "disabled " ++ decimal depth
plain_text S reason.NotPending = codes "not pending"
plain_text S (reason.Timer due cpu) = timer_text due cpu
plain_text S reason.FiresNext = codes "timer is due, fires next"
plain_text S (reason.FiresAfter v) = codes "timer is due, after " ++ name_of S v.0
plain_text S (reason.Deferred pool) = codes "deferred " ++ decimal pool ++ codes ": it still runs"
plain_text S (reason.Frozen pool) = []
plain_text S (reason.Inactive pool) = []
plain_text S (reason.Held pool) = []
plain_text S (reason.Free pool turn) = []
plain_text S (reason.After pool x) = []
plain_text S (reason.NoWorker pool) = []

abbrev pub reason_text : ScenarioContents → State → ℕ → Reason → List ℕ
reason_text S s w (reason.Frozen pool) = inactive_text S s w pool ++ codes " is frozen"
reason_text S s w (reason.Inactive pool) = inactive_text S s w pool ++ room_text S s (queue_of S w) pool
reason_text S s w (reason.Held pool) = listed_text S s w pool ++ codes "held by" ++ flat_map (spaced_name S) (counted_works S s pool)
reason_text S s w (reason.Free pool turn) = listed_text S s w pool ++ codes "free to go, " ++ turn_text turn
reason_text S s w (reason.After pool x) = listed_text S s w pool ++ codes "after " ++ name_of S (work_of x)
reason_text S s w (reason.NoWorker pool) =
    listed_text S s w pool ++ worker_words s ++ items S s (map running_half (works_on_workers S s (queue_of S w) pool))
reason_text S s w (reason.Asleep until) = plain_text S (reason.Asleep until)
reason_text S s w reason.WakesNext = plain_text S reason.WakesNext
reason_text S s w (reason.WakesAfter x) = plain_text S (reason.WakesAfter x)
reason_text S s w (reason.Behind v) = plain_text S (reason.Behind v)
reason_text S s w reason.ReadyNext = plain_text S reason.ReadyNext
reason_text S s w (reason.ReadyAfter x) = plain_text S (reason.ReadyAfter x)
reason_text S s w (reason.HighHas v) = plain_text S (reason.HighHas v)
reason_text S s w reason.Burns = plain_text S reason.Burns
reason_text S s w (reason.Disabled depth) = plain_text S (reason.Disabled depth)
reason_text S s w reason.NotPending = plain_text S reason.NotPending
reason_text S s w (reason.Timer due cpu) = plain_text S (reason.Timer due cpu)
reason_text S s w reason.FiresNext = plain_text S reason.FiresNext
reason_text S s w (reason.FiresAfter v) = plain_text S (reason.FiresAfter v)
reason_text S s w (reason.Deferred pool) = plain_text S (reason.Deferred pool)

-- The whole: of a work that runs what runs of it, and then what pends, unless nothing does and it isn't disabled; of any
-- other work what pends, or why nothing does. Last, whether the scenario's steps are spent, so that nothing moves any more.

abbrev pub pending_text : ScenarioContents → State → ℕ → List ℕ
pending_text S s w = reason_text S s w (reason_of_pending S s w (pending_at s w))

abbrev pub beside_run : ScenarioContents → State → ℕ → List ℕ
beside_run S s w = if is_none (pending_at s w) && not (is_disabled s w) then [] else codes "; " ++ pending_text S s w

abbrev pub both_halves : ScenarioContents → State → ℕ → Option Reason → List ℕ
both_halves S s w (Some running) = reason_text S s w running ++ beside_run S s w
both_halves S s w None = pending_text S s w

abbrev pub spent_text : ScenarioContents → State → List ℕ
spent_text S s = if nat_lt s.spent S.steps then [] else codes "; spent"

-- why the work isn't further in the state
abbrev pub why_text : ScenarioContents → State → ℕ → List ℕ
why_text S s w = both_halves S s w (reason_if_running S s w (running_at s w)) ++ spent_text S s

-- a line: the work's name, and why it isn't further
abbrev pub why_line : ScenarioContents → State → ℕ → List ℕ
why_line S s w = name_of S w ++ codes " " ++ why_text S s w ++ codes "\n"
