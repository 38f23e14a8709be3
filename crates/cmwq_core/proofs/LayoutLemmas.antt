-- What each single change leaves of the layout.
use Rattle.std.proofs.Common.{◌≡◌, ◌⊎◌, ℕ, ◌+◌, ◌<◌, ◌≤◌, true, List, length, get_or, set, Option, Some, None, IfSome, arith, refl, sym, ap, subst, ◌∙◌, inl, inr}
use Rattle.std.specs.Prelude.{is_some}
use Rattle.std.proofs.lemmas.List.{length-set}
use Rattle.std.proofs.lemmas.Option.{same_Some}
use Rattle.cmwq_types.specs.First.{or_else}
use Rattle.cmwq_types.specs.Scenario.{pool_count}
use Rattle.cmwq_parts.specs.Cpus.{HasCpuIfPending}
use Rattle.cmwq_table.specs.Counts.{is_rescuer}
use Rattle.cmwq_table.specs.State.{seat}
use Rattle.cmwq_table.specs.declared.state.Pending.{Pending}
use Rattle.cmwq_table.specs.declared.state.Running.{Running}
use Rattle.cmwq_idle.specs.Idle.{WorkersContents, made_in, stamp_at}
use Rattle.cmwq_queued.specs.QueuedContents.{QueuedContents, pending_at, with_pending}
use Rattle.cmwq_running.specs.RunningContents.{RunningContents}
use Rattle.cmwq_core.specs.CoreLayout.{AreSized, IsLaidOut}
use Rattle.cmwq_core.specs.Staff.{RunsOnWorker, runs_at}
use Rattle.cmwq_core.proofs.StaffLemmas.{IsFree, RunsOn, made_after, set_read, staffed_from, staffed_retire, staffed_set, staffed_start}

-- what holds of each entry of a list holds when one place was written, if it holds of what was written
pub each_set : {A : Type 0} (P : Option A → Type 0) (xs : List (Option A)) (i : ℕ) (o : Option A) → ((j : ℕ) → P (get_or xs j None)) → P o → (j : ℕ) → P (get_or (set xs i o) j None)
each_set {A = A} P xs i o each here j = by_read (set_read xs i j o)
  where
    by_read : ((j ≡ i) × (get_or (set xs i o) j None ≡ o)) ⊎ (get_or (set xs i o) j None ≡ get_or xs j None) → P (get_or (set xs i o) j None)
    by_read (inl is) = subst P (sym is.1) here
    by_read (inr kept) = subst P (sym kept) (each j)

-- a bound of each entry, raised
raised : {A : Type 0} (f : A → ℕ) (low high : ℕ) (o : Option A) → low ≤ high → IfSome o (λ x. f x < low) → IfSome o (λ x. f x < high)
raised {A = A} f low high None rises is = tt
raised {A = A} f low high (Some x) rises is = omega (arith, rises, is)

-- The sizes, where a list is changed at one place.

sized_pending : (q : QueuedContents) (r : RunningContents) (k : WorkersContents) (max depth : List ℕ) (room w : ℕ) (p : Option Pending) → AreSized q r k max depth room → AreSized (with_pending q w p) r k max depth room
sized_pending q r k max depth room w p is = record {
  setting = is.setting;
  same = is.same;
  may_make = is.may_make;
  max_long = is.max_long;
  depth_long = is.depth_long;
  pending_long = length-set q.pending w p ∙ is.pending_long;
  running_long = is.running_long;
  idle_long = is.idle_long;
  made_long = is.made_long;
  flush_room = is.flush_room;
}

sized_running : (q : QueuedContents) (r after : RunningContents) (k : WorkersContents) (max depth : List ℕ) (room : ℕ) → AreSized q r k max depth room → after.scenario ≡ r.scenario → length after.running ≡ length r.running → AreSized q after k max depth room
sized_running q r after k max depth room is same long = record {
  setting = is.setting;
  same = same ∙ is.same;
  may_make = is.may_make;
  max_long = is.max_long;
  depth_long = is.depth_long;
  pending_long = is.pending_long;
  running_long = long ∙ is.running_long;
  idle_long = is.idle_long;
  made_long = is.made_long;
  flush_room = is.flush_room;
}

sized_workers : (q : QueuedContents) (r : RunningContents) (k after : WorkersContents) (max depth : List ℕ) (room : ℕ) → AreSized q r k max depth room → after.workers ≡ k.workers → length after.idle ≡ length k.idle → length after.made ≡ length k.made → AreSized q r after max depth room
sized_workers q r k after max depth room is same idle made = record {
  setting = is.setting;
  same = is.same;
  may_make = same ∙ is.may_make;
  max_long = is.max_long;
  depth_long = is.depth_long;
  pending_long = is.pending_long;
  running_long = is.running_long;
  idle_long = idle ∙ is.idle_long;
  made_long = made ∙ is.made_long;
  flush_room = is.flush_room;
}

sized_numbers : (q : QueuedContents) (r : RunningContents) (k : WorkersContents) (max depth limits depths : List ℕ) (room : ℕ) → AreSized q r k max depth room → length limits ≡ length max → length depths ≡ length depth → AreSized q r k limits depths room
sized_numbers q r k max depth limits depths room is limits_long depths_long = record {
  setting = is.setting;
  same = is.same;
  may_make = is.may_make;
  max_long = limits_long ∙ is.max_long;
  depth_long = depths_long ∙ is.depth_long;
  pending_long = is.pending_long;
  running_long = is.running_long;
  idle_long = is.idle_long;
  made_long = is.made_long;
  flush_room = is.flush_room;
}

-- The layout.

-- the next stamp is a later one
pub laid_later : (q : QueuedContents) (r : RunningContents) (k : WorkersContents) (next later : ℕ) (max depth : List ℕ) (room : ℕ) → IsLaidOut q r k next max depth room → next ≤ later → IsLaidOut q r k later max depth room
laid_later q r k next later max depth room is rises = record {
  sized = is.sized;
  timers = is.timers;
  before = record {
    pend = λ w. raised (λ p. p.stamp) next later (pending_at q.pending w) rises (is.before.pend w);
    run = λ w. raised (λ p. p.stamp) next later (runs_at r.running w) rises (is.before.run w);
    rest = λ at. raised (λ n. n) next later (stamp_at k.idle at) rises (is.before.rest at);
  };
  staffed = is.staffed;
}

-- a work pends otherwise, or not at all
pub laid_pending : (q : QueuedContents) (r : RunningContents) (k : WorkersContents) (next : ℕ) (max depth : List ℕ) (room w : ℕ) (p : Option Pending) → IsLaidOut q r k next max depth room → IfSome p (λ p. p.stamp < next) → HasCpuIfPending q.scenario p
    → IsLaidOut (with_pending q w p) r k next max depth room
laid_pending q r k next max depth room w p is low cpu = record {
  sized = sized_pending q r k max depth room w p is.sized;
  timers = each_set (HasCpuIfPending q.scenario) q.pending w p is.timers cpu;
  before = record { pend = each_set (λ o. IfSome o (λ p. p.stamp < next)) q.pending w p is.before.pend low; run = is.before.run; rest = is.before.rest };
  staffed = is.staffed;
}

abbrev pub with_run : RunningContents → ℕ → Option Running → RunningContents
with_run r w o = record r { running = set r.running w o }

-- a work runs otherwise, on the worker on which it ran or on a rescuer, or not at all
pub laid_running : (q : QueuedContents) (r : RunningContents) (k : WorkersContents) (next : ℕ) (max depth : List ℕ) (room w : ℕ) (o : Option Running) → IsLaidOut q r k next max depth room → IfSome o (λ r. r.stamp < next) → RunsOn r.running w o
    → IsLaidOut q (with_run r w o) k next max depth room
laid_running q r k next max depth room w o is low how = record {
  sized = sized_running q r (with_run r w o) k max depth room is.sized refl (length-set r.running w o);
  timers = is.timers;
  before = record { pend = is.before.pend; run = each_set (λ o. IfSome o (λ r. r.stamp < next)) r.running w o is.before.run low; rest = is.before.rest };
  staffed = staffed_set (pool_count q.scenario) q.scenario.workers r.running k.idle k.made w o is.staffed how;
}

-- the work ran before, on the same worker of the same pool and under the same stamp
pub record RunsOnAs (running : List (Option Running)) (w : ℕ) (r : Running) : Type 0 where
  pub before : Running
  pub runs : runs_at running w ≡ Some before
  pub pool : before.pool ≡ r.pool
  pub worker : before.worker ≡ r.worker
  pub stamp : before.stamp ≡ r.stamp

-- all works run on, on the workers on which they ran and under the same stamps, at another time
pub laid_onward : (q : QueuedContents) (r after : RunningContents) (k : WorkersContents) (next : ℕ) (max depth : List ℕ) (room : ℕ) → IsLaidOut q r k next max depth room → after.scenario ≡ r.scenario → length after.running ≡ length r.running
    → ((w : ℕ) (q : Running) → runs_at after.running w ≡ Some q → RunsOnAs r.running w q) → IsLaidOut q after k next max depth room
laid_onward q r after k next max depth room is same long stems = record {
  sized = sized_running q r after k max depth room is.sized same long;
  timers = is.timers;
  before = record { pend = is.before.pend; run = λ w. before w (runs_at after.running w) refl; rest = is.before.rest };
  staffed = staffed_from (pool_count q.scenario) q.scenario.workers r.running after.running k.idle k.made is.staffed
      (λ w p on. let was = stems w p on.runs in record { before = was.before; runs = record { runs = was.runs; employed = ap is_rescuer was.worker ∙ on.employed }; pool = was.pool; worker = was.worker });
}
  where
    before : (w : ℕ) (o : Option Running) → runs_at after.running w ≡ o → IfSome o (λ p. p.stamp < next)
    before w None e = tt
    before w (Some p) e = (let was = stems w p e in subst (λ (n : ℕ). n < next) was.stamp (subst (λ (o : Option Running). IfSome o (λ p. p.stamp < next)) was.runs (is.before.run w)))

-- a work that doesn't run starts on a free worker
pub laid_start : (q : QueuedContents) (r : RunningContents) (k : WorkersContents) (next : ℕ) (max depth : List ℕ) (room w : ℕ) (p : Running) → IsLaidOut q r k next max depth room → runs_at r.running w ≡ None → p.worker < q.scenario.workers → p.stamp < next
    → IsFree k.idle k.made p.pool p.worker → IsLaidOut q (with_run r w (Some p)) (record k { idle = set k.idle (seat p.pool p.worker) None; made = set k.made p.pool (made_after k.made p.pool p.worker) }) next max depth room
laid_start q r k next max depth room w p is still small low free = record {
  sized = sized_running q r (with_run r w (Some p)) (record k { idle = set k.idle (seat p.pool p.worker) None; made = set k.made p.pool (made_after k.made p.pool p.worker) }) max depth room
      (sized_workers q r k (record k { idle = set k.idle (seat p.pool p.worker) None; made = set k.made p.pool (made_after k.made p.pool p.worker) }) max depth room is.sized refl (length-set k.idle (seat p.pool p.worker) None) (length-set k.made p.pool (made_after k.made p.pool p.worker)))
      refl (length-set r.running w (Some p));
  timers = is.timers;
  before = record {
    pend = is.before.pend;
    run = each_set (λ o. IfSome o (λ r. r.stamp < next)) r.running w (Some p) is.before.run low;
    rest = each_set (λ o. IfSome o (λ since. since < next)) k.idle (seat p.pool p.worker) None is.before.rest tt;
  };
  staffed = staffed_start (pool_count q.scenario) q.scenario.workers r.running k.idle k.made w p is.staffed is.sized.made_long still small free;
}

-- a work that ran on a worker ends, and the worker is idle from the next stamp on
pub laid_retire : (q : QueuedContents) (r : RunningContents) (k : WorkersContents) (next : ℕ) (max depth : List ℕ) (room w : ℕ) (p : Running) → IsLaidOut q r k next max depth room → RunsOnWorker r.running w p
    → IsLaidOut q (with_run r w None) (record k { idle = set k.idle (seat p.pool p.worker) (Some next) }) (next + 1) max depth room
laid_retire q r k next max depth room w p laid on =
    let is = laid_later q r k next (next + 1) max depth room laid (omega arith) in
    record {
      sized = sized_running q r (with_run r w None) (record k { idle = set k.idle (seat p.pool p.worker) (Some next) }) max depth room
          (sized_workers q r k (record k { idle = set k.idle (seat p.pool p.worker) (Some next) }) max depth room is.sized refl (length-set k.idle (seat p.pool p.worker) (Some next)) refl) refl (length-set r.running w None);
      timers = is.timers;
      before = record {
        pend = is.before.pend;
        run = each_set (λ o. IfSome o (λ r. r.stamp < next + 1)) r.running w None is.before.run tt;
        rest = each_set (λ o. IfSome o (λ since. since < next + 1)) k.idle (seat p.pool p.worker) (Some next) is.before.rest (omega arith);
      };
      staffed = staffed_retire (pool_count q.scenario) q.scenario.workers r.running k.idle k.made w next p is.staffed is.sized.idle_long is.sized.setting.workers on;
    }

-- limits and depths are others
pub laid_numbers : (q : QueuedContents) (r : RunningContents) (k : WorkersContents) (next : ℕ) (max depth limits depths : List ℕ) (room : ℕ) → IsLaidOut q r k next max depth room → length limits ≡ length max → length depths ≡ length depth → IsLaidOut q r k next limits depths room
laid_numbers q r k next max depth limits depths room is limits_long depths_long = record {
  sized = sized_numbers q r k max depth limits depths room is.sized limits_long depths_long;
  timers = is.timers;
  before = is.before;
  staffed = is.staffed;
}

-- the worker that the table calls free is free, and of the idle ones it is the last
pub free_is : (o : Option ℕ) (idle : List (Option ℕ)) (made : List ℕ) (pool worker : ℕ) → IfSome o (λ last. is_some (stamp_at idle (seat pool last)) ≡ true) → or_else o (Some (made_in made pool)) ≡ Some worker → IsFree idle made pool worker
free_is (Some last) idle made pool worker waits e = waits_at (same_Some last worker e)
  where
    waits_at : last ≡ worker → IsFree idle made pool worker
    waits_at is = IsFree.waits (subst (λ (v : ℕ). is_some (stamp_at idle (seat pool v)) ≡ true) is waits)
free_is None idle made pool worker waits e = IsFree.new (sym (same_Some (made_in made pool) worker e))
