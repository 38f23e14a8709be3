-- Lists of events in which starts and ends alternate.
use Rattle.std.proofs.Common.{◌≡◌, ℕ, zero, suc, ◌+◌, Bool, true, false, not, ◌&&◌, cond, List, [], ◌∷◌, ◌++◌, Option, Some, None, arith, refl, sym, ap, ◌∙◌, subst}
use Rattle.std.specs.List.{flat_map}
use Rattle.std.specs.Prelude.{nat_lt}
use Rattle.cmwq_types.specs.Places.{is_placed}
use Rattle.cmwq_types.specs.declared.instr.WorkId.{WorkId}
use Rattle.cmwq_types.specs.declared.reply.Place.{Place}
use Rattle.cmwq_types.specs.declared.reply.Place.TheVariants.{Timer, Inactive, Listed, Deferred}
use Rattle.cmwq_types.specs.declared.reply.Reply.{Reply}
use Rattle.cmwq_types.specs.declared.reply.Reply.TheVariants as reply
use Rattle.cmwq_table.specs.Laws.{tells_wake}
use Rattle.cmwq_table.specs.State.{State, pending_at, running_at}
use Rattle.cmwq_table.specs.declared.state.Pending.{Pending}
use Rattle.cmwq_table.specs.declared.state.Running.{Running}
use Rattle.cmwq_table.specs.Told.{is_end}
use Rattle.cmwq_events.specs.KernelEvents.{activate_events, end_events, event_by, instance_events, pool_of_place, put_by_stamp, put_if_new, put_pending, put_running, queue_events, stamp_of, stamped_below}
use Rattle.cmwq_events.specs.declared.doer.Doer.{Doer}
use Rattle.cmwq_events.specs.declared.kernel_event.KernelEvent.{KernelEvent}
use Rattle.cmwq_events.specs.declared.kernel_event.Tracepoint.{Tracepoint}
use Rattle.cmwq_events.specs.declared.kernel_event.Tracepoint.TheVariants as tracepoint
use Rattle.cmwq_events.specs.declared.kernel_task.KernelTask.{KernelTask}
use Rattle.cmwq_events.specs.declared.stamped.Instance.{Instance}
use Rattle.cmwq_events.specs.declared.stamped.Instance.TheVariants as instance
use Rattle.cmwq_events.specs.declared.stamped.Stamped.{Stamped}
use Rattle.cmwq_trace_laws.specs.EventLaws.{Alternates, MayCome, count_events, events_of, executes_then, is_ending, is_same_task, is_starting}

-- Of one task.

pub of-append : (who : KernelTask) (xs ys : List KernelEvent) → events_of who (xs ++ ys) ≡ events_of who xs ++ events_of who ys
of-append who [] ys = refl
of-append who (x ∷ xs) ys = chosen (is_same_task x.task who) (of-append who xs ys) where
  chosen : (b : Bool) → events_of who (xs ++ ys) ≡ events_of who xs ++ events_of who ys
      → cond b (x ∷ events_of who (xs ++ ys)) (events_of who (xs ++ ys)) ≡ cond b (x ∷ events_of who xs) (events_of who xs) ++ events_of who ys
  chosen true e = ap (λ (more : List KernelEvent). x ∷ more) e
  chosen false e = e

-- all of these are of one task
abbrev pub AllBy : KernelTask → List KernelEvent → Type 0
AllBy task [] = Unit {0}
AllBy task (event ∷ more) = (event.task ≡ task) × AllBy task more

pub of-by : (who task : KernelTask) (xs : List KernelEvent) (b : Bool) → is_same_task task who ≡ b → AllBy task xs → events_of who xs ≡ cond b xs []
of-by who task [] true is by = refl
of-by who task [] false is by = refl
of-by who task (x ∷ xs) true is by =
    let here : is_same_task x.task who ≡ true = ap (λ (t : KernelTask). is_same_task t who) by.0 ∙ is in
    ap (λ (b : Bool). cond b (x ∷ events_of who xs) (events_of who xs)) here ∙ ap (λ (more : List KernelEvent). x ∷ more) (of-by who task xs true is by.1)
of-by who task (x ∷ xs) false is by =
    let here : is_same_task x.task who ≡ false = ap (λ (t : KernelTask). is_same_task t who) by.0 ∙ is in
    ap (λ (b : Bool). cond b (x ∷ events_of who xs) (events_of who xs)) here ∙ of-by who task xs false is by.1

-- Events that neither start nor end anything, and events with one start.

abbrev StartIs : ℕ → ℕ → Tracepoint → Type 0
StartIs w v tracepoint.ExecuteStart = v ≡ w
StartIs w v other = Unit {0}

-- those that tell a start tell it of this work
abbrev pub StartsOf : ℕ → List KernelEvent → Type 0
StartsOf w [] = Unit {0}
StartsOf w (event ∷ more) = StartIs w event.work.0 event.tracepoint × StartsOf w more

pub passes-by : (before : Option ℕ) (xs more : List KernelEvent) → count_events is_starting xs ≡ 0 → count_events is_ending xs ≡ 0 → Alternates before more → Alternates before (xs ++ more)
passes-by before [] more starts ends rest = rest
passes-by before (x ∷ xs) more starts ends rest = at x.tracepoint starts ends (λ s e. passes-by before xs more s e rest) where
  at : (p : Tracepoint) → cond (is_starting p) 1 0 + count_events is_starting xs ≡ 0 → cond (is_ending p) 1 0 + count_events is_ending xs ≡ 0
      → (count_events is_starting xs ≡ 0 → count_events is_ending xs ≡ 0 → Alternates before (xs ++ more))
      → MayCome before x.work.0 p × Alternates (executes_then before x.work.0 p) (xs ++ more)
  at (tracepoint.QueueWork cpu pool) starts ends next = (tt, next (omega (arith, starts)) (omega (arith, ends)))
  at tracepoint.ActivateWork starts ends next = (tt, next (omega (arith, starts)) (omega (arith, ends)))
  at tracepoint.ExecuteStart starts ends next = absurd (omega (arith, starts))
  at tracepoint.ExecuteEnd starts ends next = absurd (omega (arith, ends))

pub start-by : (w : ℕ) (xs more : List KernelEvent) → StartsOf w xs → count_events is_starting xs ≡ 1 → count_events is_ending xs ≡ 0 → Alternates (Some w) more → Alternates None (xs ++ more)
start-by w [] more of starts ends rest = absurd (omega (arith, starts))
start-by w (x ∷ xs) more of starts ends rest = at x.tracepoint of.0 starts ends (λ s e. start-by w xs more of.1 s e rest) where
  at : (p : Tracepoint) → StartIs w x.work.0 p → cond (is_starting p) 1 0 + count_events is_starting xs ≡ 1 → cond (is_ending p) 1 0 + count_events is_ending xs ≡ 0
      → (count_events is_starting xs ≡ 1 → count_events is_ending xs ≡ 0 → Alternates None (xs ++ more))
      → MayCome None x.work.0 p × Alternates (executes_then None x.work.0 p) (xs ++ more)
  at (tracepoint.QueueWork cpu pool) is starts ends next = (tt, next (omega (arith, starts)) (omega (arith, ends)))
  at tracepoint.ActivateWork is starts ends next = (tt, next (omega (arith, starts)) (omega (arith, ends)))
  at tracepoint.ExecuteStart is starts ends next =
      (refl, passes-by (Some x.work.0) xs more (omega (arith, starts)) (omega (arith, ends)) (subst (λ (v : ℕ). Alternates (Some v) more) (sym is) rest))
  at tracepoint.ExecuteEnd is starts ends next = absurd (omega (arith, ends))

-- Of an instruction.

pub both-of : (w : ℕ) (xs ys : List KernelEvent) → StartsOf w xs → StartsOf w ys → StartsOf w (xs ++ ys)
both-of w [] ys first second = second
both-of w (x ∷ xs) ys first second = (first.0, both-of w xs ys first.1 second)

if-of : (w : ℕ) (b : Bool) (xs ys : List KernelEvent) → (b ≡ true → StartsOf w xs) → (b ≡ false → StartsOf w ys) → StartsOf w (cond b xs ys)
if-of w true xs ys first second = first refl
if-of w false xs ys first second = second refl

module _ (w : ℕ) (doer : Doer) (next : ℕ) (told : Reply) where
  pub ends-of : StartsOf w (end_events doer told)
  ends-of = at told where
    at : (r : Reply) → StartsOf w (end_events doer r)
    at (reply.Event work event) = if-of w (is_end event) (event_by doer work tracepoint.ExecuteEnd ∷ []) [] (λ e. (tt, tt)) (λ e. tt)
    at other = tt

  activate-of : (work : WorkId) (place : Place) → StartsOf w (activate_events doer work place)
  activate-of work (Listed pool) = (tt, tt)
  activate-of work (Inactive pool) = tt
  activate-of work (Deferred pool) = tt
  activate-of work (Timer due cpu) = tt

  pending-of : (work : WorkId) (p : Pending) → StartsOf w (queue_events doer next work p ++ activate_events doer work p.place)
  pending-of work p =
      both-of w (queue_events doer next work p) (activate_events doer work p.place)
      (if-of w (is_placed p.place && not (nat_lt p.born next)) (event_by doer work (tracepoint.QueueWork doer.cpu (pool_of_place p.place)) ∷ []) [] (λ e. (tt, tt)) (λ e. tt))
      (activate-of work p.place)

  abbrev of_one : Stamped → List KernelEvent
  of_one one = instance_events doer next told one.work one.instance

  put-of : (one : Stamped) (found : List Stamped) → StartsOf w (of_one one) → StartsOf w (flat_map of_one found) → StartsOf w (flat_map of_one (put_by_stamp one found))
  put-of one [] here rest = both-of w (of_one one) [] here tt
  put-of one (other ∷ others) here rest =
      chosen (nat_lt (stamp_of one.instance) (stamp_of other.instance)) (λ more. put-of one others here more) (split (of_one other) rest) where
        split : (xs : List KernelEvent) → StartsOf w (xs ++ flat_map of_one others) → StartsOf w xs × StartsOf w (flat_map of_one others)
        split [] both = (tt, both)
        split (x ∷ xs) both = let more = split xs both.1 in ((both.0, more.0), more.1)

        chosen : (b : Bool) → (StartsOf w (flat_map of_one others) → StartsOf w (flat_map of_one (put_by_stamp one others))) → StartsOf w (of_one other) × StartsOf w (flat_map of_one others)
            → StartsOf w (flat_map of_one (cond b (one ∷ other ∷ others) (other ∷ put_by_stamp one others)))
        chosen true more parts = both-of w (of_one one) _ here (both-of w (of_one other) _ parts.0 parts.1)
        chosen false more parts = both-of w (of_one other) _ parts.0 (more parts.1)

  new-of : (one : Stamped) (found : List Stamped) → (nat_lt (stamp_of one.instance) next ≡ false → StartsOf w (of_one one)) → StartsOf w (flat_map of_one found) → StartsOf w (flat_map of_one (put_if_new next one found))
  new-of one found here rest = chosen (nat_lt (stamp_of one.instance) next) refl where
    chosen : (b : Bool) → nat_lt (stamp_of one.instance) next ≡ b → StartsOf w (flat_map of_one (cond b found (put_by_stamp one found)))
    chosen true is = rest
    chosen false is = put-of one found (here is) rest

  puts-pending : (v : ℕ) (p : Option Pending) (found : List Stamped) → StartsOf w (flat_map of_one found) → StartsOf w (flat_map of_one (put_pending next v p found))
  puts-pending v (Some p) found rest = new-of (record { work = record { 0 = v }; instance = instance.Pending p }) found (λ e. pending-of (record { 0 = v }) p) rest
  puts-pending v None found rest = rest

  -- the work starts, if one with a new stamp does
  abbrev pub StartsThis : ℕ → Option Running → Type 0
  StartsThis v (Some r) = nat_lt r.stamp next ≡ false → tells_wake told ≡ false → v ≡ w
  StartsThis v None = Unit {0}

  puts-running : (v : ℕ) (r : Option Running) (found : List Stamped) → StartsThis v r → StartsOf w (flat_map of_one found) → StartsOf w (flat_map of_one (put_running next v r found))
  puts-running v (Some r) found this rest =
      new-of (record { work = record { 0 = v }; instance = instance.Running r }) found
      (λ new. if-of w (tells_wake told) [] (event_by doer (record { 0 = v }) tracepoint.ExecuteStart ∷ []) (λ e. tt) (λ e. (this new e, tt))) rest
  puts-running v None found this rest = rest

  pub rest-of : (t : State) → ((v : ℕ) → StartsThis v (running_at t v)) → (n : ℕ) → StartsOf w (flat_map of_one (stamped_below t next n))
  rest-of t this zero = tt
  rest-of t this (suc n) =
      puts-running n (running_at t n) (put_pending next n (pending_at t n) (stamped_below t next n)) (this n) (puts-pending n (pending_at t n) (stamped_below t next n) (rest-of t this n))

-- all of an instruction is by who does it

both-by : (task : KernelTask) (xs ys : List KernelEvent) → AllBy task xs → AllBy task ys → AllBy task (xs ++ ys)
both-by task [] ys first second = second
both-by task (x ∷ xs) ys first second = (first.0, both-by task xs ys first.1 second)

if-by : (task : KernelTask) (b : Bool) (xs ys : List KernelEvent) → AllBy task xs → AllBy task ys → AllBy task (cond b xs ys)
if-by task true xs ys first second = first
if-by task false xs ys first second = second

module _ (doer : Doer) (next : ℕ) (told : Reply) where
  activate-by : (work : WorkId) (place : Place) → AllBy doer.task (activate_events doer work place)
  activate-by work (Listed pool) = (refl, tt)
  activate-by work (Inactive pool) = tt
  activate-by work (Deferred pool) = tt
  activate-by work (Timer due cpu) = tt

  one-by : (work : WorkId) (one : Instance) → AllBy doer.task (instance_events doer next told work one)
  one-by work (instance.Pending p) =
      both-by doer.task (queue_events doer next work p) (activate_events doer work p.place)
      (if-by doer.task (is_placed p.place && not (nat_lt p.born next)) (event_by doer work (tracepoint.QueueWork doer.cpu (pool_of_place p.place)) ∷ []) [] (refl, tt) tt)
      (activate-by work p.place)
  one-by work (instance.Running r) = if-by doer.task (tells_wake told) [] (event_by doer work tracepoint.ExecuteStart ∷ []) tt (refl, tt)

  rest-by : (found : List Stamped) → AllBy doer.task (flat_map (λ one. instance_events doer next told one.work one.instance) found)
  rest-by [] = tt
  rest-by (one ∷ found) = both-by doer.task (instance_events doer next told one.work one.instance) _ (one-by one.work one.instance) (rest-by found)

  ends-by : AllBy doer.task (end_events doer told)
  ends-by = at told where
    at : (r : Reply) → AllBy doer.task (end_events doer r)
    at (reply.Event work event) = if-by doer.task (is_end event) (event_by doer work tracepoint.ExecuteEnd ∷ []) [] (refl, tt) tt
    at other = tt

  pub all-by : (found : List Stamped) → AllBy doer.task (end_events doer told ++ flat_map (λ one. instance_events doer next told one.work one.instance) found)
  all-by found = both-by doer.task (end_events doer told) _ ends-by (rest-by found)
