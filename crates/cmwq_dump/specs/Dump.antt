-- The dump text: a machine's state at a glance, as bytes.
use Rattle.std.specs.Prelude.{ℕ, Bool, true, false, not, ◌&&◌, List, [], ◌∷◌, ◌++◌, length, Option, Some, None, codes, if◌then◌else◌, is_some, ◌==◌}
use Rattle.std.specs.Fmt.{decimal}
use Rattle.std.specs.List.{flat_map}
use Rattle.cmwq_types.specs.Contents.{ScenarioContents}
use Rattle.cmwq_types.specs.First.{by_greatest, by_least, by_least_two}
use Rattle.cmwq_types.specs.Places.{is_active, is_deferred, is_inactive, is_listed, is_placed, is_runnable}
use Rattle.cmwq_types.specs.Scenario.{pool_count, queue_at, work_at}
use Rattle.cmwq_types.specs.declared.reply.Place.{Place}
use Rattle.cmwq_types.specs.declared.reply.Place.TheVariants as place
use Rattle.cmwq_table.specs.Counts.{counted, idle_stamp, is_done, pending_before, pending_due, pending_stamp, pends, running_before, running_stamp, running_until, runs}
use Rattle.cmwq_table.specs.Events.{worker_number}
use Rattle.cmwq_table.specs.State.{State, depth_at, idle_at, is_disabled, made_at, max_at, pending_at, running_at}
use Rattle.cmwq_table.specs.Table.{target_at}
use Rattle.cmwq_table.specs.declared.state.Pending.{Pending}
use Rattle.cmwq_table.specs.declared.state.Running.{Running}
use Rattle.cmwq_dump.specs.declared.group.Group.{Group}
use Rattle.cmwq_dump.specs.declared.group.Group.TheVariants.{Running as runnable, Asleep as asleep, Listed as listed, Deferred as deferred, Inactive as inactive, Timed as timed, Disabled as disabled}
use Rattle.cmwq_dump.specs.Order.{all_below, each_below}

-- Groups of works. Each has a line in `is_in`, one in `comes_before` and one in `work_line`.

-- whether the work is in the group
abbrev pub is_in : State → Group → ℕ → Bool
is_in s (runnable pool) w = runs (λ r. (r.pool == pool) && is_runnable r.mode) (running_at s w)
is_in s (asleep pool) w = runs (λ r. (r.pool == pool) && not (is_runnable r.mode)) (running_at s w)
is_in s (listed pool) w = pends (λ at. is_listed at pool) (pending_at s w)
is_in s (deferred pool) w = pends (λ at. is_deferred at && is_active at pool) (pending_at s w)
is_in s (inactive pool) w = pends (λ at. is_inactive at pool) (pending_at s w)
is_in s timed w = pends (λ at. not (is_placed at)) (pending_at s w)
is_in s disabled w = is_disabled s w

-- sleepers by (until, stamp), timers by (due, stamp), disabled works by number, all others by stamp
abbrev pub is_dumped_before : State → Group → ℕ → ℕ → Bool
is_dumped_before s (runnable pool) = running_before s
is_dumped_before s (asleep pool) = by_least_two (λ w. running_until (running_at s w)) (λ w. running_stamp (running_at s w))
is_dumped_before s (listed pool) = pending_before s
is_dumped_before s (deferred pool) = pending_before s
is_dumped_before s (inactive pool) = pending_before s
is_dumped_before s timed = by_least_two (λ w. pending_due (pending_at s w)) (λ w. pending_stamp (pending_at s w))
is_dumped_before s disabled = by_least (λ w. w)

-- What a line says of a work that may not be pending, or not run.

abbrev pub worker_of : Option Running → ℕ
worker_of (Some r) = r.worker
worker_of None = 0

abbrev pub pc_of : Option Running → ℕ
pc_of (Some r) = r.pc
pc_of None = 0

abbrev pub left_of : Option Running → ℕ
left_of (Some r) = r.left
left_of None = 0

abbrev pub cpu_of : Place → ℕ
cpu_of (place.Timer due cpu) = cpu
cpu_of (place.Inactive pool) = 0
cpu_of (place.Listed pool) = 0
cpu_of (place.Deferred pool) = 0

abbrev pub timer_cpu : Option Pending → ℕ
timer_cpu (Some p) = cpu_of p.place
timer_cpu None = 0

-- a word and the name of a work
abbrev pub word_and_name : ScenarioContents → List ℕ → ℕ → List ℕ
word_and_name S word w = word ++ (work_at S w).name

-- a number behind a space
abbrev pub spaced : ℕ → List ℕ
spaced n = 32 ∷ decimal n

-- the worker of a running work, or `rescuer`, and its place in the body
abbrev pub at_worker : Option Running → List ℕ
at_worker r = 32 ∷ worker_number (worker_of r) ++ spaced (pc_of r)

-- The lines of works, by what is told of them.

abbrev pub run_line : ScenarioContents → State → ℕ → List ℕ
run_line S s w = word_and_name S (codes "run ") w ++ at_worker (running_at s w) ++ spaced (left_of (running_at s w)) ++ 10 ∷ []

abbrev pub asleep_line : ScenarioContents → State → ℕ → List ℕ
asleep_line S s w = word_and_name S (codes "asleep ") w ++ at_worker (running_at s w) ++ spaced (running_until (running_at s w)) ++ 10 ∷ []

-- the line that has no more than a word and the name
abbrev pub name_line : ScenarioContents → List ℕ → ℕ → List ℕ
name_line S word w = word_and_name S word w ++ 10 ∷ []

abbrev pub timer_line : ScenarioContents → State → ℕ → List ℕ
timer_line S s w = word_and_name S (codes "timer ") w ++ spaced (timer_cpu (pending_at s w)) ++ spaced (pending_due (pending_at s w)) ++ 10 ∷ []

abbrev pub disabled_line : ScenarioContents → State → ℕ → List ℕ
disabled_line S s w = word_and_name S (codes "disabled ") w ++ spaced (depth_at s w) ++ 10 ∷ []

-- the line of a work in the group
abbrev pub dumped_work : ScenarioContents → State → Group → ℕ → List ℕ
dumped_work S s (runnable pool) w = run_line S s w
dumped_work S s (asleep pool) w = asleep_line S s w
dumped_work S s (listed pool) w = name_line S (codes "listed ") w
dumped_work S s (deferred pool) w = name_line S (codes "deferred ") w
dumped_work S s (inactive pool) w = name_line S (codes "inactive ") w
dumped_work S s timed w = timer_line S s w
dumped_work S s disabled w = disabled_line S s w

-- the works of the group, in order
abbrev pub members : ScenarioContents → State → Group → List ℕ
members S s group = all_below (is_dumped_before s group) (is_in s group) (length S.works)

abbrev pub group_lines : ScenarioContents → State → Group → List ℕ
group_lines S s group = flat_map (dumped_work S s group) (members S s group)

-- Pools.

-- the idle workers of a pool, the one that became idle last first
abbrev pub idle_workers : ScenarioContents → State → ℕ → List ℕ
idle_workers S s pool =
    all_below (by_greatest (λ worker. idle_stamp (idle_at s pool worker))) (λ worker. is_some (idle_at s pool worker)) S.workers

abbrev pub pool_line : ScenarioContents → State → ℕ → List ℕ
pool_line S s pool =
    codes "pool " ++ decimal pool ++ codes " counted " ++ decimal (counted S s pool) ++ codes " made " ++ decimal (made_at s pool)
    ++ codes " idle" ++ flat_map spaced (idle_workers S s pool) ++ 10 ∷ []

-- the lines of one pool
abbrev pub pool_lines : ScenarioContents → State → ℕ → List ℕ
pool_lines S s pool =
    pool_line S s pool ++ group_lines S s (runnable pool) ++ group_lines S s (asleep pool)
    ++ group_lines S s (listed pool) ++ group_lines S s (deferred pool) ++ group_lines S s (inactive pool)

-- The whole.

abbrev pub yes_or_no_text : Bool → List ℕ
yes_or_no_text true = codes "yes"
yes_or_no_text false = codes "no"

abbrev pub clock_line : State → List ℕ
clock_line s =
    codes "now " ++ decimal s.time ++ codes " spent " ++ decimal s.spent ++ codes " frozen " ++ yes_or_no_text s.frozen ++ 10 ∷ []

-- a line of a pressed machine alone
abbrev pub pressed_line : State → List ℕ
pressed_line s = if s.pressed then codes "pressed" ++ 10 ∷ [] else []

abbrev pub dumped_queue : ScenarioContents → State → ℕ → List ℕ
dumped_queue S s queue = codes "queue " ++ (queue_at S queue).name ++ codes " max " ++ decimal (max_at s queue) ++ 10 ∷ []

abbrev pub flush_line : ScenarioContents → State → ℕ → List ℕ
flush_line S s flush =
    codes "flush " ++ decimal flush ++ codes " " ++ yes_or_no_text (is_done S s (target_at s flush)) ++ 10 ∷ []

-- the dump text of a state of the scenario
abbrev pub dump : ScenarioContents → State → List ℕ
dump S s =
    clock_line s ++ pressed_line s ++ each_below (dumped_queue S s) (length S.queues) ++ each_below (pool_lines S s) (pool_count S)
    ++ group_lines S s timed ++ group_lines S s disabled ++ each_below (flush_line S s) (length s.flushes)
