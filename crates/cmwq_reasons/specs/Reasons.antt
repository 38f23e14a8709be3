-- Why an instance of a work isn't further than it is, and who holds it. Everything is read off one state.
use Rattle.std.specs.Prelude.{ℕ, zero, suc, ◌+◌, Bool, false, not, ◌&&◌, ◌||◌, List, [], ◌∷◌, ◌++◌, length, map, Option, Some, None, if◌then◌else◌, nat_lt, ◌==◌}
use Rattle.cmwq_types.specs.Contents.{ScenarioContents}
use Rattle.cmwq_types.specs.Scenario.{flags_at, queue_of}
use Rattle.cmwq_types.specs.declared.instr.WorkId.{WorkId}
use Rattle.cmwq_types.specs.declared.moves.Move.{Move}
use Rattle.cmwq_types.specs.declared.moves.Move.TheVariants.{Advance, Wake, Start, Defer, Rescue}
use Rattle.cmwq_types.specs.declared.reply.Mode.{Mode}
use Rattle.cmwq_types.specs.declared.reply.Mode.TheVariants as mode
use Rattle.cmwq_types.specs.declared.reply.Place.{Place}
use Rattle.cmwq_types.specs.declared.reply.Place.TheVariants as place
use Rattle.cmwq_table.specs.declared.state.FlushTarget.{FlushTarget}
use Rattle.cmwq_table.specs.declared.state.FlushTarget.TheVariants as target
use Rattle.cmwq_table.specs.declared.state.Pending.{Pending}
use Rattle.cmwq_table.specs.declared.state.Running.{Running}
use Rattle.cmwq_table.specs.State.{State, depth_at, is_high, is_unbound, made_at, pending_at, running_at}
use Rattle.cmwq_table.specs.Counts.{first_due, first_runnable, is_active, is_counted, is_deferred, is_inactive, is_listed, is_rescuer, limit, may_start, pending_before, pends, placed_born, running_before, runs, runs_on_rescuer}
use Rattle.cmwq_table.specs.Moves.{next_move}
use Rattle.cmwq_dump.specs.Order.{all_below}
use Rattle.cmwq_reasons.specs.declared.reason.Instance.{Instance}
use Rattle.cmwq_reasons.specs.declared.reason.Instance.TheVariants as instance
use Rattle.cmwq_reasons.specs.declared.reason.Reason.{Reason}
use Rattle.cmwq_reasons.specs.declared.reason.Reason.TheVariants as reason
use Rattle.cmwq_reasons.specs.declared.reason.Turn.{Turn}
use Rattle.cmwq_reasons.specs.declared.reason.Turn.TheVariants.{Starts, Defers, StartsOnRescuer}

-- Instances: the halves of works.

abbrev pub pending_half : ℕ → Instance
pending_half w = instance.Pending (record { 0 = w })

abbrev pub running_half : ℕ → Instance
running_half w = instance.Running (record { 0 = w })

abbrev pub work_of : Instance → ℕ
work_of (instance.Pending w) = w.0
work_of (instance.Running w) = w.0

abbrev pub is_same : Instance → Instance → Bool
is_same (instance.Pending v) (instance.Pending w) = v.0 == w.0
is_same (instance.Pending v) (instance.Running w) = false
is_same (instance.Running v) (instance.Pending w) = false
is_same (instance.Running v) (instance.Running w) = v.0 == w.0

-- who goes on or wakes runs; who starts, defers or is rescued was queued
abbrev pub moved_instance : Move → Instance
moved_instance (Advance w) = instance.Running w
moved_instance (Wake w) = instance.Running w
moved_instance (Start w) = instance.Pending w
moved_instance (Defer w) = instance.Pending w
moved_instance (Rescue w) = instance.Pending w

abbrev pub moved_by : Option Move → Option Instance
moved_by (Some move) = Some (moved_instance move)
moved_by None = None

-- the instance that the pool's next move moves
abbrev pub mover : ScenarioContents → State → ℕ → Option Instance
mover S s pool = moved_by (next_move S s pool)

-- Others that go first.

-- the work, if it is another one
abbrev pub other_work : ℕ → Option ℕ → Option ℕ
other_work w (Some v) = if v == w then None else Some v
other_work w None = None

-- the instance, if it is another one
abbrev pub other_instance : Instance → Option Instance → Option Instance
other_instance x (Some y) = if is_same x y then None else Some y
other_instance x None = None

-- it is next, or another instance goes first
abbrev pub next_or_after : Reason → (Instance → Reason) → Option Instance → Reason
next_or_after next after (Some x) = after x
next_or_after next after None = next

-- The reasons of a running half.

-- the work that goes before on the CPU of a bound pool: the pool's first runnable one, if it is another one
abbrev pub work_before : ScenarioContents → State → ℕ → ℕ → Option ℕ
work_before S s w pool = if is_unbound S pool then None else other_work w (first_runnable S s pool)

-- the work that keeps the normal pool of a CPU from burning: the first runnable one of the CPU's high pool
abbrev pub work_above : ScenarioContents → State → ℕ → Option ℕ
work_above S s pool = if is_unbound S pool || is_high pool then None else first_runnable S s (pool + 1)

abbrev pub burns_unless : Option ℕ → Reason
burns_unless (Some v) = reason.HighHas (record { 0 = v })
burns_unless None = reason.Burns

-- of a runnable work that none goes before
abbrev pub reason_of_head : ScenarioContents → State → ℕ → Running → Reason
reason_of_head S s w r =
    if r.left == 0 then next_or_after reason.ReadyNext reason.ReadyAfter (other_instance (running_half w) (mover S s r.pool))
    else burns_unless (work_above S s r.pool)

abbrev pub reason_of_runnable : ScenarioContents → State → ℕ → Running → Option ℕ → Reason
reason_of_runnable S s w r (Some v) = reason.Behind (record { 0 = v })
reason_of_runnable S s w r None = reason_of_head S s w r

abbrev pub reason_in_mode : ScenarioContents → State → ℕ → Running → Mode → Reason
reason_in_mode S s w r mode.Runnable = reason_of_runnable S s w r (work_before S s w r.pool)
reason_in_mode S s w r (mode.Asleep until) =
    if nat_lt s.time until then reason.Asleep until
    else next_or_after reason.WakesNext reason.WakesAfter (other_instance (running_half w) (mover S s r.pool))

-- why the work, which runs so, isn't further
abbrev pub reason_of_running : ScenarioContents → State → ℕ → Running → Reason
reason_of_running S s w r = reason_in_mode S s w r r.mode

-- The reasons of a pending half.

abbrev pub fires_unless : Option ℕ → Reason
fires_unless (Some v) = reason.FiresAfter (record { 0 = v })
fires_unless None = reason.FiresNext

abbrev pub free_or_after : ℕ → ℕ → Turn → WorkId → Reason
free_or_after w pool turn v = if v.0 == w then reason.Free pool turn else reason.After pool (instance.Pending v)

-- of a listed work, by the next move of its pool, which may start works
abbrev pub reason_by_move : ℕ → ℕ → Option Move → Reason
reason_by_move w pool (Some (Advance v)) = reason.After pool (instance.Running v)
reason_by_move w pool (Some (Wake v)) = reason.After pool (instance.Running v)
reason_by_move w pool (Some (Start v)) = free_or_after w pool Starts v
reason_by_move w pool (Some (Defer v)) = free_or_after w pool Defers v
reason_by_move w pool (Some (Rescue v)) = free_or_after w pool StartsOnRescuer v
reason_by_move w pool None = reason.NoWorker pool

abbrev pub reason_in_place : ScenarioContents → State → ℕ → Place → Reason
reason_in_place S s w (place.Timer due cpu) =
    if nat_lt s.time due then reason.Timer due cpu else fires_unless (other_work w (first_due S s))
reason_in_place S s w (place.Inactive pool) =
    if limit S s (queue_of S w) == 0 then reason.Frozen pool else reason.Inactive pool
reason_in_place S s w (place.Listed pool) =
    if may_start S s pool then reason_by_move w pool (next_move S s pool) else reason.Held pool
reason_in_place S s w (place.Deferred pool) = reason.Deferred pool

-- why a work isn't pending
abbrev pub reason_of_none : ℕ → Reason
reason_of_none depth = if depth == 0 then reason.NotPending else reason.Disabled depth

-- why the work, which pends so or not at all, isn't further
abbrev pub reason_of_pending : ScenarioContents → State → ℕ → Option Pending → Reason
reason_of_pending S s w (Some p) = reason_in_place S s w p.place
reason_of_pending S s w None = reason_of_none (depth_at s w)

-- The reason of an instance, if there is such a one.

abbrev pub reason_if_running : ScenarioContents → State → ℕ → Option Running → Option Reason
reason_if_running S s w (Some r) = Some (reason_of_running S s w r)
reason_if_running S s w None = None

abbrev pub reason_if_pending : ScenarioContents → State → ℕ → Option Pending → Option Reason
reason_if_pending S s w (Some p) = Some (reason_in_place S s w p.place)
reason_if_pending S s w None = None

abbrev pub reason_of : ScenarioContents → State → Instance → Option Reason
reason_of S s (instance.Pending w) = reason_if_pending S s w.0 (pending_at s w.0)
reason_of S s (instance.Running w) = reason_if_running S s w.0 (running_at s w.0)

-- Who is named, by stamp.

abbrev pub running_works : ScenarioContents → State → (ℕ → Bool) → List ℕ
running_works S s test = all_below (running_before s) test (length S.works)

abbrev pub pending_works : ScenarioContents → State → (ℕ → Bool) → List ℕ
pending_works S s test = all_below (pending_before s) test (length S.works)

-- those that stand before the work on the pool's worklist, or before it among the inactive ones of its queue
abbrev pub ahead : ScenarioContents → State → ℕ → Place → List ℕ
ahead S s w (place.Listed pool) =
    pending_works S s (λ v. pends (λ at. is_listed at pool) (pending_at s v) && pending_before s v w)
ahead S s w (place.Inactive pool) =
    pending_works S s
    (λ v. (queue_of S v == queue_of S w) && (pends (λ at. is_inactive at pool) (pending_at s v) && pending_before s v w))
ahead S s w (place.Timer due cpu) = []
ahead S s w (place.Deferred pool) = []

-- The active instances of the queue in the pool, which take up its max_active: those that run, are deferred, are listed.

abbrev pub running_holders : ScenarioContents → State → ℕ → ℕ → List Instance
running_holders S s queue pool =
    map running_half (running_works S s (λ w. (queue_of S w == queue) && runs (λ r. r.pool == pool) (running_at s w)))

abbrev pub deferred_holders : ScenarioContents → State → ℕ → ℕ → List Instance
deferred_holders S s queue pool =
    map pending_half
    (pending_works S s (λ w. (queue_of S w == queue) && pends (λ at. is_deferred at && is_active at pool) (pending_at s w)))

abbrev pub listed_holders : ScenarioContents → State → ℕ → ℕ → List Instance
listed_holders S s queue pool =
    map pending_half (pending_works S s (λ w. (queue_of S w == queue) && pends (λ at. is_listed at pool) (pending_at s w)))

abbrev pub pending_holders : ScenarioContents → State → ℕ → ℕ → List Instance
pending_holders S s queue pool = deferred_holders S s queue pool ++ listed_holders S s queue pool

abbrev pub holders : ScenarioContents → State → ℕ → ℕ → List Instance
holders S s queue pool = running_holders S s queue pool ++ pending_holders S s queue pool

-- the works that make up the concurrency level of a bound pool
abbrev pub counted_works : ScenarioContents → State → ℕ → List ℕ
counted_works S s pool = running_works S s (is_counted S s pool)

-- the works that run on workers of the pool, and those of the queue that run on its rescuer
abbrev pub works_on_pool_workers : ScenarioContents → State → ℕ → List ℕ
works_on_pool_workers S s pool = running_works S s (λ w. runs (λ r. (r.pool == pool) && not (is_rescuer r.worker)) (running_at s w))

abbrev pub works_on_rescuer : ScenarioContents → State → ℕ → List ℕ
works_on_rescuer S s queue = running_works S s (λ w. (queue_of S w == queue) && runs_on_rescuer s w)

-- who has the workers that a listed work of the queue could have in the pool
abbrev pub works_on_workers : ScenarioContents → State → ℕ → ℕ → List ℕ
works_on_workers S s queue pool = works_on_pool_workers S s pool ++ works_on_rescuer S s queue

-- the instances that a reason of the work w blames
abbrev pub causes : ScenarioContents → State → ℕ → Reason → List Instance
causes S s w (reason.WakesAfter x) = x ∷ []
causes S s w (reason.Behind v) = instance.Running v ∷ []
causes S s w (reason.ReadyAfter x) = x ∷ []
causes S s w (reason.HighHas v) = instance.Running v ∷ []
causes S s w (reason.Deferred pool) = running_half w ∷ []
causes S s w (reason.Inactive pool) = holders S s (queue_of S w) pool
causes S s w (reason.Held pool) = map running_half (counted_works S s pool)
causes S s w (reason.After pool x) = x ∷ []
causes S s w (reason.NoWorker pool) = map running_half (works_on_workers S s (queue_of S w) pool)
causes S s w (reason.Asleep until) = []
causes S s w reason.WakesNext = []
causes S s w reason.ReadyNext = []
causes S s w reason.Burns = []
causes S s w (reason.Disabled depth) = []
causes S s w reason.NotPending = []
causes S s w (reason.Timer due cpu) = []
causes S s w reason.FiresNext = []
causes S s w (reason.FiresAfter v) = []
causes S s w (reason.Frozen pool) = []
causes S s w (reason.Free pool turn) = []

-- What a flush waits for.

-- the instances of a work that are placed or run, with births that pass
abbrev pub instances_born : State → (ℕ → Bool) → ℕ → List Instance
instances_born s test w =
    (if placed_born test (pending_at s w) then pending_half w ∷ [] else [])
    ++ (if runs (λ r. test r.born) (running_at s w) then running_half w ∷ [] else [])

abbrev pub born_if_pending : Option Pending → ℕ
born_if_pending (Some p) = p.born
born_if_pending None = 0

abbrev pub born_if_running : Option Running → ℕ
born_if_running (Some r) = r.born
born_if_running None = 0

abbrev pub birth : State → Instance → ℕ
birth s (instance.Pending w) = born_if_pending (pending_at s w.0)
birth s (instance.Running w) = born_if_running (running_at s w.0)

-- an instance in its place, by birth
abbrev pub put_by_birth : State → Instance → List Instance → List Instance
put_by_birth s x [] = x ∷ []
put_by_birth s x (y ∷ ys) = if nat_lt (birth s x) (birth s y) then x ∷ y ∷ ys else y ∷ put_by_birth s x ys

abbrev pub put_all_by_birth : State → List Instance → List Instance → List Instance
put_all_by_birth s [] ys = ys
put_all_by_birth s (x ∷ xs) ys = put_by_birth s x (put_all_by_birth s xs ys)

-- the instances of the queue's first n works that were queued before the bound
abbrev pub waits_below : ScenarioContents → State → ℕ → ℕ → ℕ → List Instance
waits_below S s queue bound zero = []
waits_below S s queue bound (suc n) =
    put_all_by_birth s (if queue_of S n == queue then instances_born s (λ born. nat_lt born bound) n else [])
    (waits_below S s queue bound n)

-- the instances that a flush on this waits for, by birth
abbrev pub waits : ScenarioContents → State → FlushTarget → List Instance
waits S s (target.Instance work born) = put_all_by_birth s (instances_born s (λ b. b == born) work.0) []
waits S s (target.Queue queue bound) = waits_below S s queue.0 bound (length S.works)
waits S s target.Nothing = []

-- What a placed instance lacks: what no move and no tick brings.

abbrev pub has_thaw_to_come : ScenarioContents → State → ℕ → Place → Bool
has_thaw_to_come S s w (place.Inactive pool) = limit S s (queue_of S w) == 0
has_thaw_to_come S s w (place.Listed pool) = false
has_thaw_to_come S s w (place.Timer due cpu) = false
has_thaw_to_come S s w (place.Deferred pool) = false

-- memory is short, the pool has made no worker, and the queue has no rescuer
abbrev pub is_starved : ScenarioContents → State → ℕ → ℕ → Bool
is_starved S s w pool = s.pressed && ((made_at s pool == 0) && not (flags_at S (queue_of S w)).mem_reclaim)

abbrev pub has_relief_to_come : ScenarioContents → State → ℕ → Place → Bool
has_relief_to_come S s w (place.Inactive pool) = is_starved S s w pool
has_relief_to_come S s w (place.Listed pool) = is_starved S s w pool
has_relief_to_come S s w (place.Timer due cpu) = false
has_relief_to_come S s w (place.Deferred pool) = false

-- the instance waits for a thaw
abbrev pub lacks_thaw : ScenarioContents → State → Instance → Bool
lacks_thaw S s (instance.Pending w) = pends (has_thaw_to_come S s w.0) (pending_at s w.0)
lacks_thaw S s (instance.Running w) = false

-- the instance waits for the end of the shortage of memory
abbrev pub lacks_memory : ScenarioContents → State → Instance → Bool
lacks_memory S s (instance.Pending w) = pends (has_relief_to_come S s w.0) (pending_at s w.0)
lacks_memory S s (instance.Running w) = false
