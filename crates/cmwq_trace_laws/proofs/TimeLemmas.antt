-- Time goes on from event to event.
use Rattle.std.proofs.Common.{◌≡◌, ℕ, ◌≤◌, Bool, true, false, not, ◌&&◌, cond, List, [], ◌∷◌, ◌++◌, length, arith, refl}
use Rattle.std.specs.List.{flat_map}
use Rattle.std.specs.Prelude.{nat_lt}
use Rattle.cmwq_types.specs.Contents.{ScenarioContents}
use Rattle.cmwq_types.specs.Places.{is_placed}
use Rattle.cmwq_types.specs.declared.instr.Instr.{Instr}
use Rattle.cmwq_types.specs.declared.instr.WorkId.{WorkId}
use Rattle.cmwq_types.specs.declared.reply.Place.{Place}
use Rattle.cmwq_types.specs.declared.reply.Place.TheVariants.{Timer, Inactive, Listed, Deferred}
use Rattle.cmwq_types.specs.declared.reply.Reply.{Reply}
use Rattle.cmwq_types.specs.declared.reply.Reply.TheVariants as reply
use Rattle.cmwq_table.specs.Laws.{tells_wake}
use Rattle.cmwq_table.specs.State.{State, start}
use Rattle.cmwq_table.specs.Table.{table}
use Rattle.cmwq_table.specs.declared.state.Pending.{Pending}
use Rattle.cmwq_table.specs.Told.{is_end}
use Rattle.cmwq_burning.proofs.Happening.{Happens, table-does}
use Rattle.cmwq_events.specs.KernelEvents.{activate_events, doer_of, end_events, event_by, instance_events, instr_events, kernel_events_from, pool_of_place, queue_events, stamped_below, start_events}
use Rattle.cmwq_events.specs.declared.doer.Doer.{Doer}
use Rattle.cmwq_events.specs.declared.kernel_event.KernelEvent.{KernelEvent}
use Rattle.cmwq_events.specs.declared.kernel_event.Tracepoint.TheVariants as tracepoint
use Rattle.cmwq_events.specs.declared.stamped.Instance.{Instance}
use Rattle.cmwq_events.specs.declared.stamped.Instance.TheVariants as instance
use Rattle.cmwq_events.specs.declared.stamped.Stamped.{Stamped}
use Rattle.cmwq_trace_laws.specs.EventLaws.{GoesOn, NeverGoesBack}

-- all of these are at one time
abbrev AllAt : ℕ → List KernelEvent → Type 0
AllAt time [] = Unit {0}
AllAt time (event ∷ more) = (event.time ≡ time) × AllAt time more

both-at : (time : ℕ) (xs ys : List KernelEvent) → AllAt time xs → AllAt time ys → AllAt time (xs ++ ys)
both-at time [] ys first second = second
both-at time (x ∷ xs) ys first second = (first.0, both-at time xs ys first.1 second)

if-at : (time : ℕ) (b : Bool) (xs ys : List KernelEvent) → AllAt time xs → AllAt time ys → AllAt time (cond b xs ys)
if-at time true xs ys first second = first
if-at time false xs ys first second = second

module _ (doer : Doer) (next : ℕ) (told : Reply) where
  queue-at : (work : WorkId) (p : Pending) → AllAt doer.time (queue_events doer next work p)
  queue-at work p =
      if-at doer.time (is_placed p.place && not (nat_lt p.born next)) (event_by doer work (tracepoint.QueueWork doer.cpu (pool_of_place p.place)) ∷ []) [] (refl, tt) tt

  activate-at : (work : WorkId) (place : Place) → AllAt doer.time (activate_events doer work place)
  activate-at work (Listed pool) = (refl, tt)
  activate-at work (Inactive pool) = tt
  activate-at work (Deferred pool) = tt
  activate-at work (Timer due cpu) = tt

  start-at : (work : WorkId) → AllAt doer.time (start_events doer told work)
  start-at work = if-at doer.time (tells_wake told) [] (event_by doer work tracepoint.ExecuteStart ∷ []) tt (refl, tt)

  instance-at : (work : WorkId) (one : Instance) → AllAt doer.time (instance_events doer next told work one)
  instance-at work (instance.Pending p) = both-at doer.time (queue_events doer next work p) (activate_events doer work p.place) (queue-at work p) (activate-at work p.place)
  instance-at work (instance.Running r) = start-at work

  all-at : (found : List Stamped) → AllAt doer.time (flat_map (λ one. instance_events doer next told one.work one.instance) found)
  all-at [] = tt
  all-at (one ∷ found) = both-at doer.time (instance_events doer next told one.work one.instance) _ (instance-at one.work one.instance) (all-at found)

end-at : (doer : Doer) (told : Reply) → AllAt doer.time (end_events doer told)
end-at doer (reply.Event work event) = if-at doer.time (is_end event) (event_by doer work tracepoint.ExecuteEnd ∷ []) [] (refl, tt) tt
end-at doer other = tt

instr-at : (S : ScenarioContents) (s : State) (i : Instr) (after : State × Reply) → AllAt after.0.time (instr_events S s i after)
instr-at S s i after =
    let doer = doer_of S s i after in
    both-at after.0.time (end_events doer after.1) _ (end-at doer after.1) (all-at doer s.next after.1 (stamped_below after.0 s.next (length S.works)))

goes-on : (from time : ℕ) (xs ys : List KernelEvent) → from ≤ time → AllAt time xs → ((f : ℕ) → f ≤ time → GoesOn f ys) → GoesOn from (xs ++ ys)
goes-on from time [] ys early at rest = rest from early
goes-on from time (x ∷ xs) ys early at rest = (omega (arith, early, at.0), goes-on x.time time xs ys (omega (arith, at.0)) at.1 rest)

pub happens-later : (S : ScenarioContents) (s t : State) (told : Reply) → Happens S s t.running t.time told → s.time ≤ t.time
happens-later S s t told (Happens.nothing runs still silent) = omega (arith, still)
happens-later S s t told (Happens.passes settled runs on silent) = omega (arith, on)
happens-later S s t told (Happens.moves w e q there runs still is changes) = omega (arith, still)

run-goes-on : (S : ScenarioContents) (s : State) (instrs : List Instr) (from : ℕ) → from ≤ s.time → GoesOn from (kernel_events_from S s instrs)
run-goes-on S s [] from early = tt
run-goes-on S s (i ∷ is) from early =
    let t = (table S s i).0 in
    let later = happens-later S s t (table S s i).1 (table-does S s i) in
    goes-on from t.time (instr_events S s i (table S s i)) (kernel_events_from S t is) (omega (arith, early, later)) (instr-at S s i (table S s i))
    (λ f before. run-goes-on S t is f before)

pub never_goes_back : NeverGoesBack
unfolding NeverGoesBack
never_goes_back S valid instrs = run-goes-on S (start S) instrs 0 (omega arith)
