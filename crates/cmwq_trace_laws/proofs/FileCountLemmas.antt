-- How many events there are at most.
use Rattle.std.proofs.Common.{◌≡◌, ℕ, zero, suc, ◌+◌, ◌*◌, ◌≤◌, Bool, true, false, not, ◌&&◌, cond, List, [], ◌∷◌, ◌++◌, length, Option, Some, None, arith}
use Rattle.std.specs.List.{flat_map}
use Rattle.std.specs.Prelude.{nat_lt}
use Rattle.cmwq_types.specs.Contents.{ScenarioContents}
use Rattle.cmwq_types.specs.Places.{is_placed}
use Rattle.cmwq_types.specs.declared.instr.Instr.{Instr}
use Rattle.cmwq_types.specs.declared.instr.WorkId.{WorkId}
use Rattle.cmwq_types.specs.declared.limits.TheConstants.{MAX_WORKS}
use Rattle.cmwq_types.specs.declared.reply.Place.{Place}
use Rattle.cmwq_types.specs.declared.reply.Place.TheVariants.{Timer, Inactive, Listed, Deferred}
use Rattle.cmwq_types.specs.declared.reply.Reply.{Reply}
use Rattle.cmwq_types.specs.declared.reply.Reply.TheVariants as reply
use Rattle.cmwq_table.specs.Laws.{tells_wake}
use Rattle.cmwq_table.specs.State.{State, pending_at, running_at}
use Rattle.cmwq_table.specs.Table.{table}
use Rattle.cmwq_table.specs.declared.state.Pending.{Pending}
use Rattle.cmwq_table.specs.declared.state.Running.{Running}
use Rattle.cmwq_table.specs.Told.{is_end}
use Rattle.cmwq_events.specs.KernelEvents.{activate_events, doer_of, end_events, event_by, instance_events, instr_events, kernel_events_from, pool_of_place, put_by_stamp, put_if_new, put_pending, put_running, queue_events, stamp_of, stamped_below, start_events}
use Rattle.cmwq_events.specs.declared.doer.Doer.{Doer}
use Rattle.cmwq_events.specs.declared.kernel_event.Tracepoint.TheVariants as tracepoint
use Rattle.cmwq_events.specs.declared.stamped.Instance.{Instance}
use Rattle.cmwq_events.specs.declared.stamped.Instance.TheVariants as instance
use Rattle.cmwq_events.specs.declared.stamped.Stamped.{Stamped}

join-length : {A : Type 0} (xs ys : List A) → length (xs ++ ys) ≡ length xs + length ys
join-length [] ys = omega arith
join-length (x ∷ xs) ys = (let more = join-length xs ys in omega (arith, more))

if-few : {A : Type 0} (most : ℕ) (b : Bool) (xs ys : List A) → length xs ≤ most → length ys ≤ most → length (cond b xs ys) ≤ most
if-few most true xs ys first second = first
if-few most false xs ys first second = second

-- How many instances have new stamps.

put-length : (one : Stamped) (found : List Stamped) → length (put_by_stamp one found) ≤ length found + 1
put-length one [] = omega arith
put-length one (other ∷ others) =
    let more = put-length one others in
    if-few (length (other ∷ others) + 1) (nat_lt (stamp_of one.instance) (stamp_of other.instance)) (one ∷ other ∷ others) (other ∷ put_by_stamp one others)
    (omega arith) (omega (arith, more))

new-length : (next : ℕ) (one : Stamped) (found : List Stamped) → length (put_if_new next one found) ≤ length found + 1
new-length next one found =
    let more = put-length one found in
    if-few (length found + 1) (nat_lt (stamp_of one.instance) next) found (put_by_stamp one found) (omega arith) more

pending-length : (next w : ℕ) (o : Option Pending) (found : List Stamped) → length (put_pending next w o found) ≤ length found + 1
pending-length next w (Some p) found = new-length next (record { work = record { 0 = w }; instance = instance.Pending p }) found
pending-length next w None found = omega arith

running-length : (next w : ℕ) (o : Option Running) (found : List Stamped) → length (put_running next w o found) ≤ length found + 1
running-length next w (Some r) found = new-length next (record { work = record { 0 = w }; instance = instance.Running r }) found
running-length next w None found = omega arith

stamped-length : (t : State) (next n : ℕ) → length (stamped_below t next n) ≤ 2 * n
stamped-length t next zero = omega arith
stamped-length t next (suc w) =
    let below = stamped-length t next w in
    let one = pending-length next w (pending_at t w) (stamped_below t next w) in
    let two = running-length next w (running_at t w) (put_pending next w (pending_at t w) (stamped_below t next w)) in
    omega (arith, below, one, two)

-- How many events come of them.

module _ (doer : Doer) (next : ℕ) (told : Reply) where
  queue-few : (work : WorkId) (p : Pending) → length (queue_events doer next work p) ≤ 1
  queue-few work p =
      if-few 1 (is_placed p.place && not (nat_lt p.born next)) (event_by doer work (tracepoint.QueueWork doer.cpu (pool_of_place p.place)) ∷ []) [] (omega arith) (omega arith)

  activate-few : (work : WorkId) (place : Place) → length (activate_events doer work place) ≤ 1
  activate-few work (Listed pool) = omega arith
  activate-few work (Inactive pool) = omega arith
  activate-few work (Deferred pool) = omega arith
  activate-few work (Timer due cpu) = omega arith

  start-few : (work : WorkId) → length (start_events doer told work) ≤ 1
  start-few work = if-few 1 (tells_wake told) [] (event_by doer work tracepoint.ExecuteStart ∷ []) (omega arith) (omega arith)

  instance-few : (work : WorkId) (one : Instance) → length (instance_events doer next told work one) ≤ 2
  instance-few work (instance.Pending p) =
      let both = join-length (queue_events doer next work p) (activate_events doer work p.place) in
      let queued = queue-few work p in
      let activated = activate-few work p.place in
      omega (arith, both, queued, activated)
  instance-few work (instance.Running r) = (let started = start-few work in omega (arith, started))

  found-few : (found : List Stamped) → length (flat_map (λ one. instance_events doer next told one.work one.instance) found) ≤ 2 * length found
  found-few [] = omega arith
  found-few (one ∷ found) =
      let both = join-length (instance_events doer next told one.work one.instance) (flat_map (λ one. instance_events doer next told one.work one.instance) found) in
      let here = instance-few one.work one.instance in
      let more = found-few found in
      omega (arith, both, here, more)

end-few : (doer : Doer) (told : Reply) → length (end_events doer told) ≤ 1
end-few doer (reply.Event work e) = if-few 1 (is_end e) (event_by doer work tracepoint.ExecuteEnd ∷ []) [] (omega arith) (omega arith)
end-few doer other = omega arith

-- what one instruction gives at most
abbrev pub most_events : ℕ
most_events = 1 + 4 * MAX_WORKS

module _ (S : ScenarioContents) (within : length S.works ≤ MAX_WORKS) where
  instr-few : (s : State) (i : Instr) (after : State × Reply) → length (instr_events S s i after) ≤ most_events
  instr-few s i after =
      let doer = doer_of S s i after in
      let found = stamped_below after.0 s.next (length S.works) in
      let both = join-length (end_events doer after.1) (flat_map (λ one. instance_events doer s.next after.1 one.work one.instance) found) in
      let ended = end-few doer after.1 in
      let comes = found-few doer s.next after.1 found in
      let stamped = stamped-length after.0 s.next (length S.works) in
      omega (arith, both, ended, comes, stamped, within)

  pub run-few : (s : State) (instrs : List Instr) → length (kernel_events_from S s instrs) ≤ most_events * length instrs
  run-few s [] = omega arith
  run-few s (i ∷ is) =
      let after = table S s i in
      let both = join-length (instr_events S s i after) (kernel_events_from S after.0 is) in
      let here = instr-few s i after in
      let more = run-few after.0 is in
      omega (arith, both, here, more)
