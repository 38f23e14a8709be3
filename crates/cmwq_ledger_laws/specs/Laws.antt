-- The laws of ledgers and totals: what one may believe of them without reading how they are kept.
use Rattle.std.specs.Prelude.{◌≡◌, ℕ, ◌+◌, ◌<◌, ◌≤◌, Bool, true, false, ◌&&◌, List, [], ◌∷◌, ◌++◌, length, All, AllPairs, count_by, if◌then◌else◌, is_some, slice_index_or, sum_by, ◌==◌}
use Rattle.cmwq_types.specs.Contents.{ScenarioContents}
use Rattle.cmwq_types.specs.Faults.{IsValid}
use Rattle.cmwq_types.specs.First.{count_below}
use Rattle.cmwq_types.specs.Scenario.{queue_of}
use Rattle.cmwq_types.specs.declared.instr.Instr.{Instr}
use Rattle.cmwq_table.specs.Counts.{is_some_work}
use Rattle.cmwq_table.specs.Laws.{reply_to, state_after}
use Rattle.cmwq_table.specs.State.{State, pending_at, running_at, start}
use Rattle.cmwq_table.specs.Table.{run}
use Rattle.cmwq_burning.specs.Burning.{burns_of_body}
use Rattle.cmwq_ledger.specs.Books.{BooksContents, books_begun, books_ended, books_from}
use Rattle.cmwq_ledger.specs.Contents.{TotalsContents}
use Rattle.cmwq_ledger.specs.Ledger.{account_at, all_ticks, empty_ledger, lines_from, still_lines}
use Rattle.cmwq_ledger.specs.Totals.{burned_on, nothing_counted}
use Rattle.cmwq_ledger.specs.declared.account.Ticks.{Ticks}
use Rattle.cmwq_ledger.specs.declared.queue_totals.QueueTotals.{QueueTotals}
use Rattle.cmwq_ledger.specs.declared.times_line.Fate.{Fate}
use Rattle.cmwq_ledger.specs.declared.times_line.Fate.TheVariants.{Finished, Cancelled, StillPending, StillRunning}
use Rattle.cmwq_ledger.specs.declared.times_line.TimesLine.{TimesLine}
use Rattle.cmwq_table.specs.Told.{requested_by}
use Rattle.cmwq_ledger_laws.specs.Sleeps.{sleeps_of_body}

-- Runs from the start.

-- in every run of a valid scenario, by whatever instructions
abbrev pub InEveryRun : (ScenarioContents → List Instr → Type 0) → Type 0
InEveryRun law = (S : ScenarioContents) → IsValid S → (instrs : List Instr) → law S instrs

-- the books after the instructions
abbrev pub books_of_run : ScenarioContents → List Instr → BooksContents
books_of_run S instrs = books_from S (books_begun S) (start S) instrs

-- the lines of the instances that end along the run
abbrev pub ended_lines : ScenarioContents → List Instr → List TimesLine
ended_lines S instrs = lines_from S (empty_ledger S) (start S) instrs

-- those of the instances that are there at its end
abbrev pub left_lines : ScenarioContents → List Instr → List TimesLine
left_lines S instrs = still_lines S (books_of_run S instrs).ledger (run S instrs)

abbrev pub all_lines : ScenarioContents → List Instr → List TimesLine
all_lines S instrs = ended_lines S instrs ++ left_lines S instrs

-- the totals at the end
abbrev pub totals_of_run : ScenarioContents → List Instr → TotalsContents
totals_of_run S instrs = (books_ended S (books_of_run S instrs) (run S instrs)).totals

-- Accounts.

-- A work has an account for its pending half exactly where it is pending, and one for its running half exactly where it runs.
unfoldable pub KeepsAccountsOfInstances : ScenarioContents → List Instr → Type 0
KeepsAccountsOfInstances S instrs =
    (w : ℕ)
    → (is_some (account_at (books_of_run S instrs).ledger.pending w) ≡ is_some (pending_at (run S instrs) w))
    × (is_some (account_at (books_of_run S instrs).ledger.running w) ≡ is_some (running_at (run S instrs) w))

-- Lines.

-- the time since which the instance was there, and its counts, add up to the time at which it is told
abbrev pub IsAccountedFor : TimesLine → Type 0
IsAccountedFor line = line.account.since + all_ticks line.account.ticks ≡ line.time

-- Every line accounts for all the time that its instance was there.
unfoldable pub AccountsForAllTime : ScenarioContents → List Instr → Type 0
AccountsForAllTime S instrs = All IsAccountedFor (all_lines S instrs)

-- The times of the lines that end along a run never fall, and none is above the time at its end.
unfoldable pub TellsEndsInOrder : ScenarioContents → List Instr → Type 0
TellsEndsInOrder S instrs =
    AllPairs (λ one later. one.time ≤ later.time) (ended_lines S instrs) × All (λ line. line.time ≤ (run S instrs).time) (ended_lines S instrs)

-- it has neither run nor slept
abbrev pub HasNotRun : Ticks → Type 0
HasNotRun t = (t.ready ≡ 0) × (t.burned ≡ 0) × (t.slept ≡ 0)

-- what an instance of the work has done by its end
abbrev pub FitsFate : ScenarioContents → ℕ → Fate → Ticks → Type 0
FitsFate S w Finished t = (t.burned ≡ burns_of_body S w) × (t.slept ≡ sleeps_of_body S w)
FitsFate S w Cancelled t = HasNotRun t
FitsFate S w (StillPending place) t = HasNotRun t
FitsFate S w StillRunning t = Unit {0}

-- One that finished has burned just the burns of its body, and slept just its sleeps; one that never began has neither run nor slept.
unfoldable pub FitsBodies : ScenarioContents → List Instr → Type 0
FitsBodies S instrs = All (λ line. FitsFate S line.work.0 line.fate line.account.ticks) (all_lines S instrs)

-- Counts.

abbrev pub totals_of_queue : TotalsContents → ℕ → QueueTotals
totals_of_queue T queue = slice_index_or T.queues queue nothing_counted

-- how many works of the queue run
abbrev pub running_of_queue : ScenarioContents → State → ℕ → ℕ
running_of_queue S s queue = count_below (λ w. (queue_of S w == queue) && is_some (running_at s w)) (length S.works)

-- Of each queue as many instances started as finished, and as run at the end.
unfoldable pub CountsStarts : ScenarioContents → List Instr → Type 0
CountsStarts S instrs =
    (queue : ℕ) → queue < length S.queues
    → (totals_of_queue (totals_of_run S instrs) queue).started ≡ (totals_of_queue (totals_of_run S instrs) queue).finished + running_of_queue S (run S instrs) queue

abbrev pub is_finished : Fate → Bool
is_finished Finished = true
is_finished Cancelled = false
is_finished (StillPending place) = false
is_finished StillRunning = false

abbrev pub is_cancelled : Fate → Bool
is_cancelled Cancelled = true
is_cancelled Finished = false
is_cancelled (StillPending place) = false
is_cancelled StillRunning = false

-- the line is of an instance of the queue whose fate passes
abbrev pub is_of_queue : (Fate → Bool) → ScenarioContents → ℕ → TimesLine → Bool
is_of_queue test S queue line = test line.fate && (queue_of S line.work.0 == queue)

-- Of each queue as many instances are counted as finished as there are lines of such, and as many as cancelled.
unfoldable pub CountsEnds : ScenarioContents → List Instr → Type 0
CountsEnds S instrs =
    (queue : ℕ) → queue < length S.queues
    → (count_by (is_of_queue is_finished S queue) (ended_lines S instrs) ≡ (totals_of_queue (totals_of_run S instrs) queue).finished)
    × (count_by (is_of_queue is_cancelled S queue) (ended_lines S instrs) ≡ (totals_of_queue (totals_of_run S instrs) queue).cancelled)

-- how many are pending
abbrev pub pending_of_queue : ScenarioContents → State → ℕ → ℕ
pending_of_queue S s queue = count_below (λ w. (queue_of S w == queue) && is_some (pending_at s w)) (length S.works)

-- As many lines are of instances that are there at the end as works are pending, and as run; so it is with each queue's.
unfoldable pub TellsAllThatAreLeft : ScenarioContents → List Instr → Type 0
TellsAllThatAreLeft S instrs =
    (length (left_lines S instrs)
    ≡ count_below (λ w. is_some (pending_at (run S instrs) w)) (length S.works) + count_below (λ w. is_some (running_at (run S instrs) w)) (length S.works))
    × ((queue : ℕ)
    → count_by (λ line. queue_of S line.work.0 == queue) (left_lines S instrs) ≡ pending_of_queue S (run S instrs) queue + running_of_queue S (run S instrs) queue)

-- Ticks.

abbrev pub burned_by : TimesLine → ℕ
burned_by line = line.account.ticks.burned

-- What all instances burned was burned in the pools, and by the queues.
unfoldable pub BurnsAddUp : ScenarioContents → List Instr → Type 0
BurnsAddUp S instrs =
    (sum_by burned_by (all_lines S instrs) ≡ sum_by (λ ticks. ticks) (totals_of_run S instrs).pools)
    × (sum_by burned_by (all_lines S instrs) ≡ sum_by (λ totals. totals.burned) (totals_of_run S instrs).queues)

-- what an instance burned, if its work is of the queue
abbrev pub burned_for : ScenarioContents → ℕ → TimesLine → ℕ
burned_for S queue line = if queue_of S line.work.0 == queue then line.account.ticks.burned else 0

-- What is counted as burned of each queue is what the instances of its works burned.
unfoldable pub BurnsByQueue : ScenarioContents → List Instr → Type 0
BurnsByQueue S instrs =
    (queue : ℕ) → queue < length S.queues → sum_by (burned_for S queue) (all_lines S instrs) ≡ (totals_of_queue (totals_of_run S instrs) queue).burned

-- On each CPU, what was burned there and the ticks for which it was idle add up to the time at the end.
unfoldable pub FillsCpus : ScenarioContents → List Instr → Type 0
FillsCpus S instrs =
    (cpu : ℕ) → cpu < S.cpus → burned_on (totals_of_run S instrs) cpu + slice_index_or (totals_of_run S instrs).idle cpu 0 ≡ (run S instrs).time

-- Requests.

-- there is an instance of the work more by the instruction, and it is that time then
abbrev pub asks_at : ScenarioContents → State → Instr → ℕ → ℕ → Bool
asks_at S s i w time = is_some_work (requested_by i (reply_to S s i)) w && ((state_after S s i).time == time)

-- at how many of the instructions, from the state on
abbrev pub requests_from : ScenarioContents → State → List Instr → ℕ → ℕ → ℕ
requests_from S s [] w time = 0
requests_from S s (i ∷ is) w time = (if asks_at S s i w time then 1 else 0) + requests_from S (state_after S s i) is w time

-- the line is of an instance of the work that is there since that time
abbrev pub is_since : ℕ → ℕ → TimesLine → Bool
is_since w time line = (line.work.0 == w) && (line.account.since == time)

-- There are as many lines of a work since a time as requests for it were taken at that time.
unfoldable pub TellsEachRequest : ScenarioContents → List Instr → Type 0
TellsEachRequest S instrs = (w time : ℕ) → count_by (is_since w time) (all_lines S instrs) ≡ requests_from S (start S) instrs w time
