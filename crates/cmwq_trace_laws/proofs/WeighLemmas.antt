-- How many events of a kind come of the instances that have new stamps, work by work.
use Rattle.std.proofs.Common.{◌≡◌, ℕ, zero, suc, ◌+◌, Bool, true, false, cond, List, [], ◌∷◌, ◌++◌, Option, Some, None, arith, refl}
use Rattle.std.specs.List.{flat_map}
use Rattle.std.specs.Prelude.{nat_lt}
use Rattle.cmwq_types.specs.First.{count_below}
use Rattle.cmwq_types.specs.declared.reply.Reply.{Reply}
use Rattle.cmwq_table.specs.State.{State, pending_at, running_at}
use Rattle.cmwq_table.specs.declared.state.Pending.{Pending}
use Rattle.cmwq_table.specs.declared.state.Running.{Running}
use Rattle.cmwq_events.specs.KernelEvents.{instance_events, put_by_stamp, put_if_new, put_pending, put_running, stamp_of, stamped_below}
use Rattle.cmwq_events.specs.declared.doer.Doer.{Doer}
use Rattle.cmwq_events.specs.declared.kernel_event.KernelEvent.{KernelEvent}
use Rattle.cmwq_events.specs.declared.kernel_event.Tracepoint.{Tracepoint}
use Rattle.cmwq_events.specs.declared.stamped.Instance.TheVariants as instance
use Rattle.cmwq_events.specs.declared.stamped.Stamped.{Stamped}
use Rattle.cmwq_trace_laws.specs.EventLaws.{count_events}

pub count-append : (test : Tracepoint → Bool) (xs ys : List KernelEvent) → count_events test (xs ++ ys) ≡ count_events test xs + count_events test ys
count-append test [] ys = omega arith
count-append test (x ∷ xs) ys = let more = count-append test xs ys in omega (arith, more)

module _ (doer : Doer) (next : ℕ) (told : Reply) (test : Tracepoint → Bool) where
  abbrev pub events_in : Stamped → List KernelEvent
  events_in one = instance_events doer next told one.work one.instance

  abbrev pub of_pending : ℕ → Pending → Stamped
  of_pending w p = record { work = record { 0 = w }; instance = instance.Pending p }

  abbrev pub of_running : ℕ → Running → Stamped
  of_running w r = record { work = record { 0 = w }; instance = instance.Running r }

  abbrev total : List Stamped → ℕ
  total found = count_events test (flat_map events_in found)

  abbrev pub pending_weight : ℕ → Option Pending → ℕ
  pending_weight w (Some p) = cond (nat_lt p.stamp next) 0 (count_events test (events_in (of_pending w p)))
  pending_weight w None = 0

  abbrev pub running_weight : ℕ → Option Running → ℕ
  running_weight w (Some r) = cond (nat_lt r.stamp next) 0 (count_events test (events_in (of_running w r)))
  running_weight w None = 0

  total-more : (one : Stamped) (found : List Stamped) → total (one ∷ found) ≡ count_events test (events_in one) + total found
  total-more one found = count-append test (events_in one) (flat_map events_in found)

  total-put : (one : Stamped) (found : List Stamped) → total (put_by_stamp one found) ≡ count_events test (events_in one) + total found
  total-put one [] = total-more one []
  total-put one (other ∷ others) = chosen (nat_lt (stamp_of one.instance) (stamp_of other.instance)) (total-put one others) where
    chosen : (b : Bool) → total (put_by_stamp one others) ≡ count_events test (events_in one) + total others
        → total (cond b (one ∷ other ∷ others) (other ∷ put_by_stamp one others)) ≡ count_events test (events_in one) + total (other ∷ others)
    chosen true more = total-more one (other ∷ others)
    chosen false more =
        let whole = total-more other (put_by_stamp one others) in
        let rest = total-more other others in
        omega (arith, more, whole, rest)

  total-new : (one : Stamped) (found : List Stamped) → total (put_if_new next one found) ≡ cond (nat_lt (stamp_of one.instance) next) 0 (count_events test (events_in one)) + total found
  total-new one found = chosen (nat_lt (stamp_of one.instance) next) where
    chosen : (b : Bool) → total (cond b found (put_by_stamp one found)) ≡ cond b 0 (count_events test (events_in one)) + total found
    chosen true = omega arith
    chosen false = total-put one found

  total-pending : (w : ℕ) (p : Option Pending) (found : List Stamped) → total (put_pending next w p found) ≡ pending_weight w p + total found
  total-pending w (Some p) found = total-new (of_pending w p) found
  total-pending w None found = omega arith

  total-running : (w : ℕ) (r : Option Running) (found : List Stamped) → total (put_running next w r found) ≡ running_weight w r + total found
  total-running w (Some r) found = total-new (of_running w r) found
  total-running w None found = omega arith

  -- where each work weighs one or nothing, these are counted
  pub counted : (t : State) (g : ℕ → Bool) → ((w : ℕ) → pending_weight w (pending_at t w) + running_weight w (running_at t w) ≡ cond (g w) 1 0)
      → (n : ℕ) → count_events test (flat_map events_in (stamped_below t next n)) ≡ count_below g n
  counted t g each zero = refl
  counted t g each (suc n) =
      let before = counted t g each n in
      let pending = total-pending n (pending_at t n) (stamped_below t next n) in
      let running = total-running n (running_at t n) (put_pending next n (pending_at t n) (stamped_below t next n)) in
      let here = each n in
      omega (arith, before, pending, running, here)
