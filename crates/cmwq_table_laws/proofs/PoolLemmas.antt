-- Where works are placed: in their pool, which their queue's flags tell.
use Rattle.std.proofs.Common.{◌≡◌, ◌⊎◌, ℕ, zero, suc, ◌+◌, ◌*◌, Bool, true, false, ◌||◌, List, [], ◌∷◌, Option, Some, None, arith, refl, sym, ap, ◌∙◌, subst, inl, inr}
use Rattle.std.proofs.lemmas.Bool.{cases_eq}
use Rattle.std.proofs.lemmas.List.{get_or-set_other}
use Rattle.std.specs.Prelude.{if◌then◌else◌, slice_index_or, slice_set}
use Rattle.cmwq_types.specs.Contents.{ScenarioContents}
use Rattle.cmwq_types.specs.Scenario.{flags_at, op_at, queue_of}
use Rattle.cmwq_types.specs.declared.instr.Instr.{Instr}
use Rattle.cmwq_types.specs.declared.instr.Instr.TheVariants as instr
use Rattle.cmwq_types.specs.declared.instr.WorkId.{WorkId}
use Rattle.cmwq_types.specs.declared.reply.Event.TheVariants as event
use Rattle.cmwq_types.specs.declared.reply.Place.TheVariants.{Timer, Inactive, Listed}
use Rattle.cmwq_types.specs.declared.reply.Refusal.{Refusal}
use Rattle.cmwq_types.specs.declared.reply.Reply.{Reply}
use Rattle.cmwq_types.specs.declared.reply.Reply.TheVariants as reply
use Rattle.cmwq_types.specs.declared.scenario.Flags.{Flags}
use Rattle.cmwq_types.specs.declared.scenario.Op.{Op}
use Rattle.cmwq_types.specs.declared.scenario.Op.TheVariants as op
use Rattle.cmwq_table.specs.Counts.{first_due, has_room}
use Rattle.cmwq_table.specs.Laws.{AtEveryInstruction, placed_in, reply_to}
use Rattle.cmwq_table.specs.Moves.{carry_out, fire, fired, fired_to, first_moving, onward, place, pool_for, pool_or, queue_from_body, taken_off, with_pending}
use Rattle.cmwq_table.specs.State.{State, is_disabled, pending_at, running_at, target}
use Rattle.cmwq_table.specs.Table.{delayed, effect, fired_first, modified, next, queued, run}
use Rattle.cmwq_table.specs.declared.state.Pending.{Pending}
use Rattle.cmwq_table.specs.declared.state.Running.{Running}
use Rattle.cmwq_table_laws.specs.Pools.{BodiesPlaceInPool, FiresToPool, IsAskedAtOnce, IsPlacedByFlags, IsToldByFlags, PlacesInPool}
use Rattle.cmwq_table_laws.proofs.AcceptingLemmas.{at-effect}
use Rattle.cmwq_table_laws.proofs.LengthLemmas.{taken_off-keeps}
use Rattle.cmwq_table_laws.proofs.Stepping.{at-instruction, at-move}

-- What the flags tell.

or-true : (b : Bool) → (b || true) ≡ true
or-true true = refl
or-true false = refl

no-more : (n : ℕ) → n + 0 ≡ n
no-more n = omega arith

told-by_flags : (cpus : ℕ) (flags : Flags) (cpu : ℕ)
    → IsToldByFlags cpus flags cpu ((if flags.unbound || flags.ordered then 2 * cpus else 2 * cpu) + (if flags.highpri then 1 else 0))
told-by_flags cpus flags cpu = record {
  bound = λ unbound ordered high. rw (unbound, ordered, high) (no-more (2 * cpu));
  bound_high = λ unbound ordered high. rw (unbound, ordered, high) refl;
  unbound = λ unbound high. rw (unbound, high) (no-more (2 * cpus));
  unbound_high = λ unbound high. rw (unbound, high) refl;
  ordered = λ ordered high. rw (ordered, or-true flags.unbound, high) (no-more (2 * cpus));
  ordered_high = λ ordered high. rw (ordered, or-true flags.unbound, high) refl;
}

pub is_placed_by_flags : IsPlacedByFlags
unfolding IsPlacedByFlags
is_placed_by_flags S s w cpu =
    let elsewhere = target S (queue_of S w) cpu in (
      λ r runs. ap (λ (o : Option Running). pool_or o elsewhere) runs,
      λ idle. subst (λ (o : Option Running). IsToldByFlags S.cpus (flags_at S (queue_of S w)) cpu (pool_or o elsewhere)) (sym idle)
          (told-by_flags S.cpus (flags_at S (queue_of S w)) cpu),
    )

-- A work item that is placed.

-- if the work item is pending there, it is placed in its pool
abbrev pub InPool : ScenarioContents → State → (w cpu : ℕ) → List (Option Pending) → Type 0
InPool S s w cpu pending = (p : Pending) → slice_index_or pending w None ≡ Some p → placed_in p.place ≡ Some (pool_for S s w cpu)

set-is : (xs : List (Option Pending)) (w : ℕ) (q p : Pending) → slice_index_or (slice_set xs w (Some q)) w None ≡ Some p → q ≡ p
set-is [] w q p e = cc
set-is (x ∷ xs) zero q p e = let same : q ≡ p = cc in same
set-is (x ∷ xs) (suc w) q p e = set-is xs w q p e

either-placed : (b : Bool) (pool : ℕ) → placed_in (if b then Listed pool else Inactive pool) ≡ Some pool
either-placed true pool = refl
either-placed false pool = refl

pub place-in_pool : (S : ScenarioContents) (s : State) (w cpu : ℕ) → InPool S s w cpu (place S s w cpu).pending
place-in_pool S s w cpu p is =
    let pool = pool_for S s w cpu in
    let room = has_room S s (queue_of S w) pool in
    let new : Pending = record { born = s.next; stamp = s.next; place = if room then Listed pool else Inactive pool } in
    subst (λ (q : Pending). placed_in q.place ≡ Some pool) (set-is s.pending w new p is) (either-placed room pool)

-- the pool is the same, if the same instances run
pub same-pool : (S : ScenarioContents) (s t : State) (w cpu : ℕ) → t.running ≡ s.running → pool_for S t w cpu ≡ pool_for S s w cpu
same-pool S s t w cpu same = ap (λ (running : List (Option Running)). pool_or (slice_index_or running w None) (target S (queue_of S w) cpu)) same

-- Instructions.

-- the reply says that the work item was placed, or put on a timer
abbrev TellsPlaced : Reply → Type 0
TellsPlaced r = (r ≡ reply.Queued) ⊎ (r ≡ reply.Changed)

already-placed : TellsPlaced reply.Already → ⊥
already-placed told = elim told [ inl e ↦ cc | inr e ↦ cc ]

no-refusal : (r : Reply) (why : Refusal) → TellsPlaced r → r ≡ reply.Refused why → ⊥
no-refusal r why (inl e) refused = cc
no-refusal r why (inr e) refused = cc

module _ (S : ScenarioContents) (s : State) (work : WorkId) (cpu : ℕ) where
  -- the pool is that of the state before
  abbrev Placed : State × Reply → Type 0
  Placed after = TellsPlaced after.1 → InPool S s work.0 cpu after.0.pending

  queued-in_pool : (o : Option Pending) → Placed (queued S s work.0 cpu o)
  queued-in_pool (Some q) told = absurd (already-placed told)
  queued-in_pool None told = place-in_pool S s work.0 cpu

  delayed-in_pool : (o : Option Pending) → Placed (delayed S s work.0 cpu 0 o)
  delayed-in_pool (Some q) told = absurd (already-placed told)
  delayed-in_pool None told = place-in_pool S s work.0 cpu

  modified-in_pool : (o : Option Pending) → Placed (modified S s work.0 cpu 0 o)
  modified-in_pool (Some q) told =
      let off = taken_off S s work.0 (Some q) in
      λ p is. place-in_pool S off work.0 cpu p is ∙ ap Some (same-pool S s off work.0 cpu (taken_off-keeps S s work.0 (Some q)).running)
  modified-in_pool None told = place-in_pool S s work.0 cpu

  asked-in_pool : (i : Instr) → IsAskedAtOnce i work cpu → Placed (effect S s i)
  asked-in_pool i (inl queue) = subst (λ (j : Instr). Placed (effect S s j)) (sym queue) (queued-in_pool (pending_at s work.0))
  asked-in_pool i (inr (inl delay)) = subst (λ (j : Instr). Placed (effect S s j)) (sym delay) (delayed-in_pool (pending_at s work.0))
  asked-in_pool i (inr (inr modify)) = subst (λ (j : Instr). Placed (effect S s j)) (sym modify) (modified-in_pool (pending_at s work.0))

pub places_in_pool : AtEveryInstruction PlacesInPool
unfolding PlacesInPool
places_in_pool S valid instrs i work cpu asked told =
    let s = run S instrs in
    at-effect S s i (λ (r : Reply) (pending : List (Option Pending)). TellsPlaced r → InPool S s work.0 cpu pending) (λ why refused. no-refusal (reply_to S s i) why told refused)
    (asked-in_pool S s work cpu i asked) told

-- Timers.

same-work : (v : ℕ) (work : WorkId) → record { 0 = v } ≡ work → v ≡ work.0
same-work v work e = ap (λ (w : WorkId). w.0) e

module _ (S : ScenarioContents) (s : State) (work : WorkId) (timer : Pending) (due cpu : ℕ) (pends : pending_at s work.0 ≡ Some timer) (at : timer.place ≡ Timer due cpu) where
  -- it is placed, if the reply says that its timer has fired
  abbrev Fired : State × Reply → Type 0
  Fired after = after.1 ≡ reply.Event work event.Fires → InPool S s work.0 cpu after.0.pending

  fired-in_pool : (o : Option ℕ) → Fired (fired_first S s o)
  fired-in_pool (Some v) told =
      let named : record { 0 = v } ≡ work = cc in
      let is : fire S s v ≡ place S (with_pending s work.0 None) work.0 cpu =
      ap (fire S s) (same-work v work named) ∙ ap (fired S s work.0) pends ∙ ap (fired_to S s work.0) at in
      subst (λ (t : State). InPool S s work.0 cpu t.pending) (sym is) (place-in_pool S (with_pending s work.0 None) work.0 cpu)
  fired-in_pool None told = absurd cc

  -- `next` fires a timer, or else moves a pool, of which nothing fires
  next-in_pool : (o : Option ℕ) → Fired (next S s o)
  next-in_pool (Some v) told = fired-in_pool (Some v) told
  next-in_pool None told = absurd (at-move S s work event.Fires refl (λ pending. ⊥) (λ r o is at says told. says) (first_moving S s) told)

  fires-in_pool : (i : Instr) → (i ≡ instr.Fire) ⊎ (i ≡ instr.Next) → Fired (effect S s i)
  fires-in_pool i (inl same) = subst (λ (j : Instr). Fired (effect S s j)) (sym same) (fired-in_pool (first_due S s))
  fires-in_pool i (inr same) = subst (λ (j : Instr). Fired (effect S s j)) (sym same) (next-in_pool (first_due S s))

pub fires_to_pool : AtEveryInstruction FiresToPool
unfolding FiresToPool
fires_to_pool S valid instrs i work timer due cpu which told pends at =
    let s = run S instrs in
    at-effect S s i (λ (r : Reply) (pending : List (Option Pending)). r ≡ reply.Event work event.Fires → InPool S s work.0 cpu pending)
    (λ why refused. (let no : reply.Event work event.Fires ≡ reply.Refused why = sym told ∙ refused in cc)) (fires-in_pool S s work timer due cpu pends at i which) told

-- Bodies.

-- A body goes on by one operation, and runs in the same pool.
pub onward-pool : (S : ScenarioContents) (s : State) (v w cpu : ℕ) (r : Running) → running_at s v ≡ Some r → pool_for S (onward s v r) w cpu ≡ pool_for S s w cpu
onward-pool S s v w cpu r runs =
    elim (cases_eq w v) [
      | inl same ↦ subst (λ (k : ℕ). pool_for S (onward s v r) k cpu ≡ pool_for S s k cpu) (sym same) (onward-own s.running v r (target S (queue_of S v) cpu) runs)
      | inr other ↦ ap (λ (o : Option Running). pool_or o (target S (queue_of S w) cpu)) (get_or-set_other s.running v w (Some (record r { pc = r.pc + 1 })) None other)
    ]
  where
    onward-own : (xs : List (Option Running)) (v : ℕ) (r : Running) (elsewhere : ℕ) → slice_index_or xs v None ≡ Some r
        → pool_or (slice_index_or (slice_set xs v (Some (record r { pc = r.pc + 1 }))) v None) elsewhere ≡ pool_or (slice_index_or xs v None) elsewhere
    onward-own [] v r elsewhere is = refl
    onward-own (x ∷ xs) zero r elsewhere is = sym (ap (λ (o : Option Running). pool_or o elsewhere) is)
    onward-own (x ∷ xs) (suc v) r elsewhere is = onward-own xs v r elsewhere is

module _ (S : ScenarioContents) (s : State) (w : ℕ) (r : Running) (runs : running_at s w ≡ Some r) (other : WorkId) (cpu : ℕ) where
  body-in_pool : (b : Bool) (o : Option Pending) → (queue_from_body S (onward s w r) other cpu b o).1 ≡ event.Queues other false
      → InPool S s other.0 cpu (queue_from_body S (onward s w r) other cpu b o).0.pending
  body-in_pool true o told = absurd cc
  body-in_pool false (Some q) told = absurd cc
  body-in_pool false None told = λ p is. place-in_pool S (onward s w r) other.0 cpu p is ∙ ap Some (onward-pool S s w other.0 cpu r runs)

  carried-in_pool : (o : Op) → o ≡ op.Queue other cpu → (carry_out S s w r o).1 ≡ event.Queues other false → InPool S s other.0 cpu (carry_out S s w r o).0.pending
  carried-in_pool o named =
      subst (λ (x : Op). (carry_out S s w r x).1 ≡ event.Queues other false → InPool S s other.0 cpu (carry_out S s w r x).0.pending) (sym named)
      (body-in_pool (is_disabled s other.0) (pending_at s other.0))

pub bodies_place_in_pool : AtEveryInstruction BodiesPlaceInPool
unfolding BodiesPlaceInPool
bodies_place_in_pool S valid instrs i pool work other r cpu which told runs named =
    let s = run S instrs in
    at-instruction S s work (event.Queues other false) refl (InPool S s other.0 cpu)
    (λ q o is at says. (let same : q ≡ r = cc in carried-in_pool S s work.0 q is other cpu o (sym at ∙ ap (λ (x : Running). op_at S work.0 x.pc) same ∙ named)))
    (λ fires. cc) pool i which told
