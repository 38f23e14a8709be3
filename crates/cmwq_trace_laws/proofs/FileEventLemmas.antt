-- What one instruction's events have room for, if who does it is in range, and so is what comes of it.
use Rattle.std.proofs.Common.{◌≡◌, ℕ, zero, suc, ◌^◌, ◌<◌, ◌≤◌, Bool, true, false, not, ◌&&◌, cond, List, [], ◌∷◌, ◌++◌, length, Option, Some, None, arith, refl}
use Rattle.std.specs.List.{AllByRecursion, flat_map}
use Rattle.std.specs.Prelude.{nat_lt}
use Rattle.cmwq_types.specs.Contents.{ScenarioContents}
use Rattle.cmwq_types.specs.Places.{is_placed}
use Rattle.cmwq_types.specs.declared.instr.Instr.{Instr}
use Rattle.cmwq_types.specs.declared.instr.WorkId.{WorkId}
use Rattle.cmwq_types.specs.declared.limits.TheConstants.{MAX_CPUS, MAX_WORKS}
use Rattle.cmwq_types.specs.declared.reply.Event.{Event}
use Rattle.cmwq_types.specs.declared.reply.Place.{Place}
use Rattle.cmwq_types.specs.declared.reply.Place.TheVariants.{Timer, Inactive, Listed, Deferred}
use Rattle.cmwq_types.specs.declared.reply.Reply.{Reply}
use Rattle.cmwq_types.specs.declared.reply.Reply.TheVariants as reply
use Rattle.cmwq_table.specs.Laws.{tells_wake}
use Rattle.cmwq_table.specs.Ready.{IsPlaceReady}
use Rattle.cmwq_table.specs.State.{State, pending_at, running_at}
use Rattle.cmwq_table.specs.declared.state.Pending.{Pending}
use Rattle.cmwq_table.specs.declared.state.Running.{Running}
use Rattle.cmwq_blame_laws.proofs.Places.{IsReadyIf}
use Rattle.cmwq_table.specs.Told.{is_end}
use Rattle.cmwq_events.specs.KernelEvents.{activate_events, doer_of, end_events, event_by, instance_events, instr_events, pool_of_place, put_by_stamp, put_if_new, put_pending, put_running, queue_events, stamp_of, stamped_below, start_events}
use Rattle.cmwq_events.specs.KernelTasks.{task_pid}
use Rattle.cmwq_events.specs.declared.doer.Doer.{Doer}
use Rattle.cmwq_events.specs.declared.kernel_event.KernelEvent.{KernelEvent}
use Rattle.cmwq_events.specs.declared.kernel_event.Tracepoint.{Tracepoint}
use Rattle.cmwq_events.specs.declared.kernel_event.Tracepoint.TheVariants as tracepoint
use Rattle.cmwq_events.specs.declared.stamped.Instance.{Instance}
use Rattle.cmwq_events.specs.declared.stamped.Instance.TheVariants as instance
use Rattle.cmwq_events.specs.declared.stamped.Stamped.{Stamped}
use Rattle.cmwq_trace_data.specs.Reading.{HasFields, IsTellable}

abbrev pub AreTellable : List KernelEvent → Type 0
AreTellable events = AllByRecursion IsTellable events

pub all-both : {A : Type 0} (P : A → Type 0) (xs ys : List A) → AllByRecursion P xs → AllByRecursion P ys → AllByRecursion P (xs ++ ys)
all-both P [] ys first second = second
all-both P (x ∷ xs) ys first second = (first.0, all-both P xs ys first.1 second)

if-all : {A : Type 0} (P : A → Type 0) (b : Bool) (xs ys : List A) → AllByRecursion P xs → AllByRecursion P ys → AllByRecursion P (cond b xs ys)
if-all P true xs ys first second = first
if-all P false xs ys first second = second

-- who does something, and for which CPU, in numbers that have room
pub record IsDoer (doer : Doer) : Type 0 where
  pub time : doer.time ≤ 2 ^ 32
  pub pid : task_pid doer.task < 2 ^ 32
  pub cpu : doer.cpu < 2 ^ 8

abbrev pub IsInstance : ScenarioContents → Instance → Type 0
IsInstance S (instance.Pending p) = IsPlaceReady S p.place
IsInstance S (instance.Running r) = Unit {0}

-- the work has a number that has room, and its instance a place
pub record IsStamped (S : ScenarioContents) (one : Stamped) : Type 0 where
  pub work : one.work.0 < 2 ^ 16
  pub instance : IsInstance S one.instance

module _ (S : ScenarioContents) (few : S.cpus ≤ MAX_CPUS) where
  place-pool : (place : Place) → IsPlaceReady S place → pool_of_place place < 2 ^ 8
  place-pool (Inactive pool) there = omega (arith, there, few)
  place-pool (Listed pool) there = omega (arith, there, few)
  place-pool (Deferred pool) there = omega (arith, there, few)
  place-pool (Timer due cpu) there = omega arith

  module _ (doer : Doer) (is_doer : IsDoer doer) (next : ℕ) (told : Reply) where
    by-doer : (work : WorkId) (at : Tracepoint) → work.0 < 2 ^ 16 → HasFields at → IsTellable (event_by doer work at)
    by-doer work at small fields = record { time = is_doer.time; pid = is_doer.pid; work = small; fields = fields }

    queue-tellable : (work : WorkId) (p : Pending) → work.0 < 2 ^ 16 → IsPlaceReady S p.place → AreTellable (queue_events doer next work p)
    queue-tellable work p small there =
        let at : Tracepoint = tracepoint.QueueWork doer.cpu (pool_of_place p.place) in
        if-all IsTellable (is_placed p.place && not (nat_lt p.born next)) (event_by doer work at ∷ []) []
        (by-doer work at small (is_doer.cpu, place-pool p.place there), tt) tt

    activate-tellable : (work : WorkId) (place : Place) → work.0 < 2 ^ 16 → AreTellable (activate_events doer work place)
    activate-tellable work (Listed pool) small = (by-doer work tracepoint.ActivateWork small tt, tt)
    activate-tellable work (Inactive pool) small = tt
    activate-tellable work (Deferred pool) small = tt
    activate-tellable work (Timer due cpu) small = tt

    start-tellable : (work : WorkId) → work.0 < 2 ^ 16 → AreTellable (start_events doer told work)
    start-tellable work small =
        if-all IsTellable (tells_wake told) [] (event_by doer work tracepoint.ExecuteStart ∷ []) tt (by-doer work tracepoint.ExecuteStart small tt, tt)

    instance-tellable : (work : WorkId) (one : Instance) → work.0 < 2 ^ 16 → IsInstance S one → AreTellable (instance_events doer next told work one)
    instance-tellable work (instance.Pending p) small there =
        all-both IsTellable (queue_events doer next work p) (activate_events doer work p.place) (queue-tellable work p small there) (activate-tellable work p.place small)
    instance-tellable work (instance.Running r) small there = start-tellable work small

    pub found-tellable : (found : List Stamped) → AllByRecursion (IsStamped S) found
        → AreTellable (flat_map (λ one. instance_events doer next told one.work one.instance) found)
    found-tellable [] stamped = tt
    found-tellable (one ∷ found) stamped =
        all-both IsTellable (instance_events doer next told one.work one.instance) (flat_map (λ one. instance_events doer next told one.work one.instance) found)
        (instance-tellable one.work one.instance stamped.0.work stamped.0.instance) (found-tellable found stamped.1)

    -- an end is told of a work whose number has room
    pub end-tellable : ((w : WorkId) (e : Event) → told ≡ reply.Event w e → is_end e ≡ true → w.0 < 2 ^ 16) → AreTellable (end_events doer told)
    end-tellable = ended told where
      ended : (r : Reply) → ((w : WorkId) (e : Event) → r ≡ reply.Event w e → is_end e ≡ true → w.0 < 2 ^ 16) → AreTellable (end_events doer r)
      ended (reply.Event w e) small = chosen (is_end e) refl where
        chosen : (b : Bool) → is_end e ≡ b → AreTellable (cond b (event_by doer w tracepoint.ExecuteEnd ∷ []) [])
        chosen true is = (by-doer w tracepoint.ExecuteEnd (small w e refl is) tt, tt)
        chosen false is = tt
      ended other small = tt

  put-all : (one : Stamped) (found : List Stamped) → IsStamped S one → AllByRecursion (IsStamped S) found → AllByRecursion (IsStamped S) (put_by_stamp one found)
  put-all one [] here stamped = (here, tt)
  put-all one (other ∷ others) here stamped =
      if-all (IsStamped S) (nat_lt (stamp_of one.instance) (stamp_of other.instance)) (one ∷ other ∷ others) (other ∷ put_by_stamp one others)
      (here, stamped) (stamped.0, put-all one others here stamped.1)

  put-new : (next : ℕ) (one : Stamped) (found : List Stamped) → IsStamped S one → AllByRecursion (IsStamped S) found
      → AllByRecursion (IsStamped S) (put_if_new next one found)
  put-new next one found here stamped =
      if-all (IsStamped S) (nat_lt (stamp_of one.instance) next) found (put_by_stamp one found) stamped (put-all one found here stamped)

  put-pending : (next w : ℕ) (o : Option Pending) (found : List Stamped) → w < 2 ^ 16 → IsReadyIf S o → AllByRecursion (IsStamped S) found
      → AllByRecursion (IsStamped S) (put_pending next w o found)
  put-pending next w (Some p) found small ready stamped =
      put-new next (record { work = record { 0 = w }; instance = instance.Pending p }) found (record { work = small; instance = ready }) stamped
  put-pending next w None found small ready stamped = stamped

  put-running : (next w : ℕ) (o : Option Running) (found : List Stamped) → w < 2 ^ 16 → AllByRecursion (IsStamped S) found
      → AllByRecursion (IsStamped S) (put_running next w o found)
  put-running next w (Some r) found small stamped =
      put-new next (record { work = record { 0 = w }; instance = instance.Running r }) found (record { work = small; instance = tt }) stamped
  put-running next w None found small stamped = stamped

  stamped-all : (t : State) (next n : ℕ) → n ≤ MAX_WORKS → ((w : ℕ) → IsReadyIf S (pending_at t w)) → AllByRecursion (IsStamped S) (stamped_below t next n)
  stamped-all t next zero within ready = tt
  stamped-all t next (suc w) within ready =
      let below = stamped-all t next w (omega (arith, within)) ready in
      let small : w < 2 ^ 16 = omega (arith, within) in
      put-running next w (running_at t w) (put_pending next w (pending_at t w) (stamped_below t next w)) small
      (put-pending next w (pending_at t w) (stamped_below t next w) small (ready w) below)

  pub instr-tellable : (s : State) (i : Instr) (after : State × Reply) → length S.works ≤ MAX_WORKS → IsDoer (doer_of S s i after)
      → ((w : WorkId) (e : Event) → after.1 ≡ reply.Event w e → is_end e ≡ true → w.0 < 2 ^ 16) → ((w : ℕ) → IsReadyIf S (pending_at after.0 w))
      → AreTellable (instr_events S s i after)
  instr-tellable s i after within is_doer ends ready =
      let doer = doer_of S s i after in
      let found = stamped_below after.0 s.next (length S.works) in
      all-both IsTellable (end_events doer after.1) (flat_map (λ one. instance_events doer s.next after.1 one.work one.instance) found)
      (end-tellable doer is_doer s.next after.1 ends) (found-tellable doer is_doer s.next after.1 found (stamped-all after.0 s.next (length S.works) within ready))
