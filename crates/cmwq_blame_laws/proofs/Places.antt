-- In every state of a run, what is placed is so in a pool that is there, and a timer is one of a CPU that is there.
use Rattle.std.proofs.Common.{◌≡◌, ℕ, zero, suc, ◌+◌, ◌*◌, ◌<◌, ◌≤◌, Bool, true, false, cond, ◌&&◌, ◌||◌, List, [], ◌∷◌, length, Option, Some, None, arith, replicate, subst, slice_index_or, slice_set}
use Rattle.std.proofs.lemmas.Bool.{and_parts, eqb-true}
use Rattle.std.specs.Prelude.{◌==◌}
use Rattle.cmwq_types.specs.Contents.{ScenarioContents}
use Rattle.cmwq_types.specs.Faults.{IsValid}
use Rattle.cmwq_types.specs.Scenario.{flags_at, pool_count, priority, queue_of, target}
use Rattle.cmwq_types.specs.Setting.{IsSetting}
use Rattle.cmwq_types.specs.declared.instr.Instr.{Instr}
use Rattle.cmwq_types.specs.declared.moves.Move.{Move}
use Rattle.cmwq_types.specs.declared.reply.Event.{Event}
use Rattle.cmwq_types.specs.declared.reply.Place.{Place}
use Rattle.cmwq_types.specs.declared.reply.Place.TheVariants.{Timer, Inactive, Listed, Deferred}
use Rattle.cmwq_types.specs.declared.reply.Reply.{Reply}
use Rattle.cmwq_types.proofs.FirstLemmas.{by_least-order, first_below-is_first}
use Rattle.cmwq_types.proofs.SettingLemmas.{IsSetting-valid}
use Rattle.cmwq_table.specs.Changes.{Acts, Does, Effect, Fills, Sets, Turn, bear, place_for}
use Rattle.cmwq_table.specs.Counts.{first_inactive, has_room, is_inactive, is_rescuer, pending_before, pending_stamp, pends}
use Rattle.cmwq_table.specs.Laws.{placed_in}
use Rattle.cmwq_table.specs.Moves.{become_idle, begin_again, listed_at, onward, pool_for, pool_or, retire, with_pending, with_running}
use Rattle.cmwq_table.specs.Ready.{IsPlaceReady}
use Rattle.cmwq_table.specs.State.{State, pending_at, running_at, start}
use Rattle.cmwq_table.specs.Table.{after_all, run, table}
use Rattle.cmwq_table.specs.declared.state.Pending.{Pending}
use Rattle.cmwq_table.specs.declared.state.Running.{Running}
use Rattle.cmwq_table.proofs.Doings.{table-does}
use Rattle.cmwq_burning.proofs.Telling.{IsInPool, RunInPools, all-in_pools, run-in_pools}
use Rattle.cmwq_reasons.proofs.MoverLemmas.{some-first}

-- A map's entries.

module _ {A : Type 0} (P : Option A → Type 0) where
  abbrev EachIs : List (Option A) → Type 0
  EachIs xs = (w : ℕ) → P (slice_index_or xs w None)

  set-each : (xs : List (Option A)) (w : ℕ) (o : Option A) → P o → EachIs xs → EachIs (slice_set xs w o)
  set-each [] w o here each v = each v
  set-each (x ∷ xs) zero o here each zero = here
  set-each (x ∷ xs) zero o here each (suc v) = each (suc v)
  set-each (x ∷ xs) (suc w) o here each zero = each zero
  set-each (x ∷ xs) (suc w) o here each (suc v) = set-each xs w o here (λ u. each (suc u)) v

  none-each : (n : ℕ) → P None → EachIs (replicate n None)
  none-each zero none w = none
  none-each (suc n) none zero = none
  none-each (suc n) none (suc w) = none-each n none w

abbrev pub IsReadyIf : ScenarioContents → Option Pending → Type 0
IsReadyIf S (Some p) = IsPlaceReady S p.place
IsReadyIf S None = Unit {0}

abbrev pub AreReady : ScenarioContents → State → Type 0
AreReady S s = EachIs (IsReadyIf S) s.pending

abbrev RunReady : ScenarioContents → State → Type 0
RunReady S s = EachIs (IsInPool S) s.running

-- What changes.

record StandsReady (S : ScenarioContents) (s : State) : Type 0 where
  runs : RunReady S s
  places : AreReady S s

module _ (S : ScenarioContents) where
  put : (s : State) (w : ℕ) (o : Option Pending) → IsReadyIf S o → AreReady S s → EachIs (IsReadyIf S) (slice_set s.pending w o)
  put s w o here ready = set-each (IsReadyIf S) s.pending w o here ready

  off : (s : State) (w : ℕ) → StandsReady S s → StandsReady S (with_pending s w None)
  off s w ready = record { runs = ready.runs; places = put s w None tt ready.places }

  place-at : (s : State) (w : ℕ) (p : Pending) → AreReady S s → pending_at s w ≡ Some p → IsPlaceReady S p.place
  place-at s w p ready is = subst (IsReadyIf S) is (ready w)

  -- an inactive work item waits in a pool that is there
  inactive-there : (pool : ℕ) (o : Option Pending) → IsReadyIf S o → pends (λ place. is_inactive place pool) o ≡ true → pool < pool_count S
  inactive-there pool (Some p) ready e = by p.place ready e where
    by : (at : Place) → IsPlaceReady S at → is_inactive at pool ≡ true → pool < pool_count S
    by (Inactive at) ready e = (let same = eqb-true at pool e in omega (arith, same, ready))
    by (Timer due cpu) ready e = cc
    by (Listed at) ready e = cc
    by (Deferred at) ready e = cc
  inactive-there pool None ready e = cc

  listed-ready : (pool stamp : ℕ) (o : Option Pending) → pool < pool_count S → IsReadyIf S (listed_at pool stamp o)
  listed-ready pool stamp (Some p) within = within
  listed-ready pool stamp None within = tt

  fills-ready : (s t : State) → StandsReady S s → Fills S s t → StandsReady S t
  fills-ready s t ready Fills.stays = ready
  fills-ready s t ready (Fills.more u queue pool w filling first room) =
      let before = fills-ready s u ready filling in
      let test = λ (v : ℕ). (queue_of S v == queue) && pends (λ place. is_inactive place pool) (pending_at u v) in
      let found = some-first (pending_before u) test (length S.works) (first_inactive S u queue pool) (first_below-is_first (pending_before u) test (length S.works) (by_least-order (λ v. pending_stamp (pending_at u v)))) w first in
      let waits = and_parts (queue_of S w == queue) (pends (λ place. is_inactive place pool) (pending_at u w)) found.1 in
      let there = inactive-there pool (pending_at u w) (before.places w) waits.1 in
      record { runs = before.runs; places = put u w (listed_at pool u.next (pending_at u w)) (listed-ready pool u.next (pending_at u w) there) before.places }

  level-most : (b : Bool) → cond b 1 0 ≤ 1
  level-most true = omega arith
  level-most false = omega arith

  target-ready : (queue cpu : ℕ) → cpu < S.cpus → target S queue cpu < pool_count S
  target-ready queue cpu within = by ((flags_at S queue).unbound || (flags_at S queue).ordered) where
    by : (b : Bool) → cond b (2 * S.cpus) (2 * cpu) + priority S queue < pool_count S
    by true = (let few = level-most (flags_at S queue).highpri in omega (arith, few))
    by false = (let few = level-most (flags_at S queue).highpri in omega (arith, few, within))

  pool-ready : (o : Option Running) (elsewhere : ℕ) → IsInPool S o → elsewhere < pool_count S → pool_or o elsewhere < pool_count S
  pool-ready (Some r) elsewhere here there = here
  pool-ready None elsewhere here there = there

  bear-ready : (s : State) (w cpu ticks : ℕ) → cpu < S.cpus → StandsReady S s → StandsReady S (bear s w (place_for S s w cpu ticks))
  bear-ready s w cpu (suc ticks) within ready = record { runs = ready.runs; places = put s w _ within ready.places }
  bear-ready s w cpu zero within ready = record { runs = ready.runs; places = by (has_room S s (queue_of S w) (pool_for S s w cpu)) } where
    there : pool_for S s w cpu < pool_count S
    there = pool-ready (running_at s w) (target S (queue_of S w) cpu) (ready.runs w) (target-ready (queue_of S w) cpu within)

    by : (b : Bool) → EachIs (IsReadyIf S) (slice_set s.pending w (Some (record { born = s.next; stamp = s.next; place = cond b (Listed (pool_for S s w cpu)) (Inactive (pool_for S s w cpu)) })))
    by true = put s w _ there ready.places
    by false = put s w _ there ready.places

  -- the work item runs in a pool that is there, or not at all
  runs-ready : (s : State) (w : ℕ) (r : Option Running) → IsInPool S r → StandsReady S s → StandsReady S (with_running s w r)
  runs-ready s w r here ready = record { runs = set-each (IsInPool S) s.running w r here ready.runs; places = ready.places }

  retired-ready : (s : State) (w : ℕ) (r : Running) → StandsReady S s → StandsReady S (retire s w r)
  retired-ready s w r ready = by (is_rescuer r.worker) where
    gone : StandsReady S (with_running s w None)
    gone = runs-ready s w None tt ready

    by : (b : Bool) → StandsReady S (cond {A = State} b (with_running s w None) (become_idle s w r))
    by true = gone
    by false = record { runs = gone.runs; places = gone.places }

module _ (S : ScenarioContents) (setting : IsSetting S) where
  turn-ready : (s t : State) (w : ℕ) (took put : Bool) → StandsReady S s → Turn S s w took put t → StandsReady S t
  turn-ready s t w took put ready (Turn.fills u filling) = fills-ready S s u ready filling
  turn-ready s t w took put ready (Turn.puts cpu ticks may enabled is) = bear-ready S s w cpu ticks (may.cpu_there setting) ready
  turn-ready s t w took put ready (Turn.takes p u is filling) = fills-ready S (with_pending s w None) u (off S s w ready) filling
  turn-ready s t w took put ready (Turn.fires p due cpu is at) =
      bear-ready S (with_pending s w None) w cpu 0 (subst (IsPlaceReady S) at (place-at S s w p ready.places is)) (off S s w ready)
  turn-ready s t w took put ready (Turn.changes p u cpu ticks may enabled is filling) =
      bear-ready S u w cpu ticks (may.cpu_there setting) (fills-ready S (with_pending s w None) u (off S s w ready) filling)

  -- afterwards the places are so; that the pools of those that run are there is known of every state
  acts-ready : (s t : State) (pool : ℕ) (move : Move) (e : Event) → pool < pool_count S → StandsReady S s → Acts S s pool move e t → AreReady S t
  acts-ready s t pool move e there ready (Acts.starts w worker p free is) = put S s w.0 None tt ready.places
  acts-ready s t pool move e there ready (Acts.rescues w p is) = put S s w.0 None tt ready.places
  acts-ready s t pool move e there ready (Acts.defers w p is) = put S s w.0 _ there ready.places
  acts-ready s t pool move e there ready (Acts.asks w r o e1 v took put u is at asking turn) =
      let here : r.pool < pool_count S = subst (IsInPool S) is (ready.runs w.0) in
      (turn-ready (onward s w.0 r) u v took put (runs-ready S s w.0 (Some (record r { pc = r.pc + 1 })) here ready) turn).places
  acts-ready s t pool move e there ready (Acts.ends w r u is at none filling) = (fills-ready S (retire s w.0 r) u (retired-ready S s w.0 r ready) filling).places
  acts-ready s t pool move e there ready (Acts.again w r p u is at some deferred filling) =
      let here : r.pool < pool_count S = subst (IsInPool S) is (ready.runs w.0) in
      let begun : StandsReady S (begin_again s w.0 r p) =
      record { runs = set-each (IsInPool S) s.running w.0 _ here ready.runs; places = put S s w.0 None tt ready.places } in
      (fills-ready S (begin_again s w.0 r p) u begun filling).places
  acts-ready s t pool move e there ready acting = ready.places

  sets-ready : (s t : State) (i : Instr) → StandsReady S s → Sets s i t → StandsReady S t
  sets-ready s t i ready (Sets.nothing i1 shallow) = ready
  sets-ready s t i ready set = record { runs = ready.runs; places = ready.places }

  effect-ready : (s t : State) (i : Instr) (r : Reply) → StandsReady S s → Effect S s i t r → AreReady S t
  effect-ready s t i r ready (Effect.acts pool move e u shallow there is fits acting) = acts-ready s u pool move e there ready acting
  effect-ready s t i r ready (Effect.fires w u shallow due turn) = (turn-ready s u w false false ready turn).places
  effect-ready s t i r ready (Effect.passes shallow due moving) = ready.places
  effect-ready s t i r ready (Effect.answers b u w took put told set turn answer) = (turn-ready b u w took put (sets-ready s b i ready set) turn).places
  effect-ready s t i r ready (Effect.gives u w took put f told shallow turn answer) = (turn-ready s u w took put ready turn).places

  does-ready : (s t : State) (i : Instr) (r : Reply) → StandsReady S s → Does S s i t r → AreReady S t
  does-ready s t i r ready (Does.refused why) = ready.places
  does-ready s t i r ready (Does.done u told spent fits effect) = effect-ready s u i told ready effect

-- Runs.

all-ready : (S : ScenarioContents) (setting : IsSetting S) (s : State) (instrs : List Instr) → RunInPools S s.running → AreReady S s → AreReady S (after_all S s instrs)
all-ready S setting s [] runs ready = ready
all-ready S setting s (i ∷ is) runs ready =
    all-ready S setting (table S s i).0 is (all-in_pools S s (i ∷ []) runs)
    (does-ready S setting s (table S s i).0 i (table S s i).1 (record { runs = runs.pools; places = ready }) (table-does S s i))

pub run-ready : (S : ScenarioContents) → IsValid S → (instrs : List Instr) → AreReady S (run S instrs)
run-ready S valid instrs =
    all-ready S (IsSetting-valid S valid) (start S) instrs (run-in_pools S []) (none-each (IsReadyIf S) (length S.works) tt)

-- the pool of a place that is ready is there
pub placed-there : (S : ScenarioContents) (at : Place) (pool : ℕ) → IsPlaceReady S at → placed_in at ≡ Some pool → pool < pool_count S
placed-there S (Timer due cpu) pool here e = cc
placed-there S (Inactive at) pool here e = (let same : at ≡ pool = cc in omega (arith, here, same))
placed-there S (Listed at) pool here e = (let same : at ≡ pool = cc in omega (arith, here, same))
placed-there S (Deferred at) pool here e = (let same : at ≡ pool = cc in omega (arith, here, same))

ready-if : (S : ScenarioContents) (o : Option Pending) (p : Pending) → o ≡ Some p → IsReadyIf S o → IsPlaceReady S p.place
ready-if S o p is here = subst (IsReadyIf S) is here

-- each half of a work is in one of the scenario's pools, if it is in one
pub pending-in_range : (S : ScenarioContents) → IsValid S → (instrs : List Instr) (w : ℕ) (p : Pending) → pending_at (run S instrs) w ≡ Some p
    → (pool : ℕ) → placed_in p.place ≡ Some pool → pool < pool_count S
pending-in_range S valid instrs w p is pool e = placed-there S p.place pool (ready-if S (pending_at (run S instrs) w) p is (run-ready S valid instrs w)) e

pub running-in_range : (S : ScenarioContents) (instrs : List Instr) (w : ℕ) (r : Running) → running_at (run S instrs) w ≡ Some r → r.pool < pool_count S
running-in_range S instrs w r is = subst (IsInPool S) is ((run-in_pools S instrs).pools w)
