-- The kinds of change that the table makes to one work, and chains of them.
use Rattle.std.proofs.Common.{◌≡◌, ℕ, ◌+◌, ◌<◌, ◌≤◌, Bool, true, false, ◌||◌, length, Option, Some, None}
use Rattle.cmwq_types.specs.Contents.{ScenarioContents}
use Rattle.cmwq_types.specs.Scenario.{flags_at, queue_of}
use Rattle.cmwq_types.specs.declared.reply.Place.TheVariants.{Timer, Inactive, Listed, Deferred}
use Rattle.cmwq_table.specs.declared.state.Pending.{Pending}
use Rattle.cmwq_table.specs.declared.state.Running.{Running}
use Rattle.cmwq_table.specs.State.{State, pending_at, running_at, depth_at, made_at, pool_count, target}
use Rattle.cmwq_table.specs.Counts.{has_free_rescuer, has_room, is_rescuer, may_start, first_inactive, is_deferred, is_runnable, pends}
use Rattle.cmwq_table.specs.Moves.{newborn, begun, fill}

-- the maps of the pending and of the running works have a place for each work
pub record IsLong (S : ScenarioContents) (s : State) : Type 0 where
  pub pending : length s.pending ≡ length S.works
  pub running : length s.running ≡ length S.works

-- of an unbound queue there is one pool to which the work may go
abbrev pub IsOwnPool : ScenarioContents → ℕ → ℕ → Type 0
IsOwnPool S w pool = ((flags_at S (queue_of S w)).unbound || (flags_at S (queue_of S w)).ordered) ≡ true → pool ≡ target S (queue_of S w) 0

-- the pool is one to which the work may go
pub record IsPoolOf (S : ScenarioContents) (w pool : ℕ) : Type 0 where
  pub in_range : pool < pool_count S
  pub own : IsOwnPool S w pool

-- where the work runs, it runs in this pool
abbrev pub RunsIn : Option Running → ℕ → Type 0
RunsIn (Some r) pool = r.pool ≡ pool
RunsIn None pool = Unit {0}

-- Only the work w changes: then it pends as p and runs as r.
pub record Alters (S : ScenarioContents) (s t : State) (w : ℕ) (p : Option Pending) (r : Option Running) : Type 0 where
  pub in_range : w < length S.works
  pub pending_here : pending_at t w ≡ p
  pub running_here : running_at t w ≡ r
  pub pending_else : (v : ℕ) → (v ≡ w → ⊥) → pending_at t v ≡ pending_at s v
  pub running_else : (v : ℕ) → (v ≡ w → ⊥) → running_at t v ≡ running_at s v
  pub long : IsLong S t
  pub max : t.max ≡ s.max
  pub frozen : t.frozen ≡ s.frozen
  pub time : t.time ≡ s.time
  pub depth : t.depth ≡ s.depth
  pub flushes : t.flushes ≡ s.flushes
  pub made : ((pool : ℕ) → made_at s pool ≤ S.workers) → (pool : ℕ) → made_at t pool ≤ S.workers

-- The kinds of change of the work w, from what it pends and runs as to what it then does, and the next
-- stamp. First stands the pool in which its queue loses an active instance, if it does.
pub data Kind (S : ScenarioContents) (places wakes : Bool) (s : State) (w : ℕ) : Option ℕ → Option Pending → Option Running → Option Pending → Option Running → ℕ → Type 0 where
  placed : (r : Option Running) (pool : ℕ) → places ≡ true → IsPoolOf S w pool → RunsIn r pool → has_room S s (queue_of S w) pool ≡ true → depth_at s w ≡ 0
      → Kind S places wakes s w None None r (newborn s (Listed pool)) r (s.next + 1)
  put_off : (r : Option Running) (pool : ℕ) → places ≡ true → IsPoolOf S w pool → RunsIn r pool → has_room S s (queue_of S w) pool ≡ false → depth_at s w ≡ 0
      → Kind S places wakes s w None None r (newborn s (Inactive pool)) r (s.next + 1)
  timed : (r : Option Running) (due cpu : ℕ) → places ≡ true → cpu < S.cpus → depth_at s w ≡ 0
      → Kind S places wakes s w None None r (newborn s (Timer due cpu)) r (s.next + 1)
  untimed : (born stamp : ℕ) (r : Option Running) (due cpu : ℕ)
      → Kind S places wakes s w None (Some (record { born = born; stamp = stamp; place = Timer due cpu })) r None r s.next
  taken_inactive : (born stamp : ℕ) (r : Option Running) (pool : ℕ)
      → Kind S places wakes s w (Some pool) (Some (record { born = born; stamp = stamp; place = Inactive pool })) r None r s.next
  taken_listed : (born stamp : ℕ) (r : Option Running) (pool : ℕ)
      → Kind S places wakes s w (Some pool) (Some (record { born = born; stamp = stamp; place = Listed pool })) r None r s.next
  taken_deferred : (born stamp : ℕ) (r : Option Running) (pool : ℕ)
      → Kind S places wakes s w (Some pool) (Some (record { born = born; stamp = stamp; place = Deferred pool })) r None r s.next
  activated : (born stamp : ℕ) (r : Option Running) (pool : ℕ) → has_room S s (queue_of S w) pool ≡ true
      → first_inactive S s (queue_of S w) pool ≡ Some w
      → Kind S places wakes s w None (Some (record { born = born; stamp = stamp; place = Inactive pool })) r (Some (record { born = born; stamp = s.next; place = Listed pool })) r (s.next + 1)
  started : (born stamp pool worker : ℕ) → may_start S s pool ≡ true → (is_rescuer worker ≡ true → has_free_rescuer S s (queue_of S w) ≡ true)
      → Kind S places wakes s w None (Some (record { born = born; stamp = stamp; place = Listed pool })) None None (Some (begun born pool worker s.next)) (s.next + 1)
  deferred : (born stamp pool : ℕ) (r : Running)
      → Kind S places wakes s w None (Some (record { born = born; stamp = stamp; place = Listed pool })) (Some r) (Some (record { born = born; stamp = stamp; place = Deferred pool })) (Some r) s.next
  goes_on : (p : Option Pending) (r q : Running) → q.born ≡ r.born → q.pool ≡ r.pool → q.worker ≡ r.worker → (is_runnable q.mode ≡ true → is_runnable r.mode ≡ true)
      → Kind S places wakes s w None p (Some r) p (Some q) s.next
  woken : (p : Option Pending) (r q : Running) → wakes ≡ true → q.born ≡ r.born → q.pool ≡ r.pool → q.worker ≡ r.worker
      → Kind S places wakes s w None p (Some r) p (Some q) (s.next + 1)
  again : (born stamp pool : ℕ) (r : Running) → is_runnable r.mode ≡ true
      → Kind S places wakes s w (Some r.pool) (Some (record { born = born; stamp = stamp; place = Deferred pool })) (Some r) None (Some (begun born r.pool r.worker s.next)) (s.next + 1)
  retired : (p : Option Pending) (r : Running) (next : ℕ) → pends is_deferred p ≡ false → s.next ≤ next → Kind S places wakes s w (Some r.pool) p (Some r) p None next

-- a change of one work
pub record Change (S : ScenarioContents) (places wakes : Bool) (left : Option ℕ) (s t : State) (w : ℕ) : Type 0 where
  pub p : Option Pending
  pub r : Option Running
  pub alters : Alters S s t w p r
  pub kind : Kind S places wakes s w left (pending_at s w) (running_at s w) p r t.next

-- Changes one after another. Where a queue loses an active instance in a pool it is filled there, which
-- places nothing anew.
pub data Follows (S : ScenarioContents) : Bool → Bool → State → State → Type 0 where
  stays : (places wakes : Bool) (s : State) → Follows S places wakes s s
  changes : (places wakes : Bool) (s t u : State) (w : ℕ) → Change S places wakes None s t w → Follows S places wakes t u → Follows S places wakes s u
  leaves : (places wakes : Bool) (s t u : State) (w pool : ℕ) → Change S places wakes (Some pool) s t w
      → Follows S false wakes t (fill S (queue_of S w) pool t) → Follows S places wakes (fill S (queue_of S w) pool t) u → Follows S places wakes s u

pub Follows-then : (S : ScenarioContents) (places wakes : Bool) (s t u : State) → Follows S places wakes s t → Follows S places wakes t u → Follows S places wakes s u
Follows-then S places wakes s t u (stays pl wk a) next = next
Follows-then S places wakes s t u (changes pl wk a b c w change rest) next = changes places wakes s b u w change (Follows-then S places wakes b t u rest next)
Follows-then S places wakes s t u (leaves pl wk a b c w pool change filled rest) next =
    leaves places wakes s b u w pool change filled (Follows-then S places wakes (fill S (queue_of S w) pool b) t u rest next)
