-- What bodies do to other work items: they set timers and place work items on the CPU where they run, and take off what is pending.
use Rattle.std.proofs.Common.{◌≡◌, ◌⊎◌, ℕ, zero, suc, ◌+◌, ◌<◌, Bool, true, false, List, length, Option, Some, None, arith, refl, sym, ap, ◌∙◌, subst, inl, inr}
use Rattle.std.proofs.lemmas.List.{get_or-set_same}
use Rattle.std.specs.Prelude.{is_some, slice_index_or}
use Rattle.cmwq_types.proofs.SettingLemmas.{IsSetting-valid}
use Rattle.cmwq_types.specs.Contents.{ScenarioContents}
use Rattle.cmwq_types.specs.Scenario.{local_cpu, op_at}
use Rattle.cmwq_types.specs.Setting.{IsOpInRange, IsSetting}
use Rattle.cmwq_types.specs.declared.instr.Instr.{Instr}
use Rattle.cmwq_types.specs.declared.instr.Instr.TheVariants as instr
use Rattle.cmwq_types.specs.declared.instr.WorkId.{WorkId}
use Rattle.cmwq_types.specs.declared.reply.Event.{Event}
use Rattle.cmwq_types.specs.declared.reply.Event.TheVariants as event
use Rattle.cmwq_types.specs.declared.reply.Place.TheVariants.{Timer}
use Rattle.cmwq_types.specs.declared.reply.Reply.TheVariants as reply
use Rattle.cmwq_types.specs.declared.scenario.Op.{Op}
use Rattle.cmwq_types.specs.declared.scenario.Op.TheVariants as op
use Rattle.cmwq_table.specs.Laws.{AtEveryInstruction, reply_to, state_after}
use Rattle.cmwq_table.specs.Moves.{carry_out, delay_from_body, mod_from_body, newborn, onward, place_after, pool_for, taken_off}
use Rattle.cmwq_table.specs.State.{State, is_disabled, pending_at, running_at}
use Rattle.cmwq_table.specs.Table.{place_of, run}
use Rattle.cmwq_table.specs.declared.state.Pending.{Pending}
use Rattle.cmwq_table.specs.declared.state.Running.{Running}
use Rattle.cmwq_table.proofs.IdleLemmas.{taken_off-idle}
use Rattle.cmwq_table_laws.specs.Pools.{BodiesCancel, BodiesPlaceAtOnce, BodiesSetTimers, QueuesAfter}
use Rattle.cmwq_table_laws.proofs.LengthLemmas.{pending-long, taken_off-keeps}
use Rattle.cmwq_table_laws.proofs.PoolLemmas.{InPool, onward-pool, place-in_pool, same-pool}
use Rattle.cmwq_table_laws.proofs.Stepping.{at-instruction}

-- Timers and places.

-- where the work item is then, which was asked for after the ticks in the state
abbrev IsArmed : ScenarioContents → State → (w ticks cpu : ℕ) → List (Option Pending) → Type 0
IsArmed S s w ticks cpu pending =
    (0 < ticks → place_of (slice_index_or pending w None) ≡ Some (Timer (s.time + ticks) cpu)) × (ticks ≡ 0 → InPool S s w cpu pending)

arms : (S : ScenarioContents) (s : State) (w cpu ticks : ℕ) → w < length s.pending → IsArmed S s w ticks cpu (place_after S s w cpu ticks).pending
arms S s w cpu zero there = (λ more. absurd (omega arith), λ none. place-in_pool S s w cpu)
arms S s w cpu (suc ticks) there = (
  λ more. ap place_of (get_or-set_same s.pending w (newborn s (Timer (s.time + suc ticks) cpu)) None there),
  λ none. absurd (omega arith),
)

-- the same, if the state was another one of that time, in which the work item would have come into that pool
armed-before : (S : ScenarioContents) (s u : State) (pending : List (Option Pending)) (w ticks cpu : ℕ) → u.time ≡ s.time → pool_for S u w cpu ≡ pool_for S s w cpu
    → IsArmed S u w ticks cpu pending → IsArmed S s w ticks cpu pending
armed-before S s u pending w ticks cpu time pool armed = (
  λ more. armed.0 more ∙ ap (λ (now : ℕ). Some (Timer (now + ticks) cpu)) time,
  λ none p is. armed.1 none p is ∙ ap Some pool,
)

-- taken off, if it was pending, and asked for anew
arms-anew : (S : ScenarioContents) (s : State) (w cpu ticks : ℕ) (o : Option Pending) → w < length s.pending
    → IsArmed S s w ticks cpu (place_after S (taken_off S s w o) w cpu ticks).pending
arms-anew S s w cpu ticks o there =
    let off : State = taken_off S s w o in
    let kept = taken_off-keeps S s w o in
    armed-before S s off (place_after S off w cpu ticks).pending w ticks cpu kept.time (same-pool S s off w cpu kept.running) (arms S off w cpu ticks (omega (arith, there, kept.long)))

delays-arm : (S : ScenarioContents) (s : State) (other : WorkId) (cpu ticks : ℕ) (b : Bool) (o : Option Pending) → other.0 < length s.pending
    → (delay_from_body S s other cpu ticks b o).1 ≡ event.Delays other ticks false → IsArmed S s other.0 ticks cpu (delay_from_body S s other cpu ticks b o).0.pending
delays-arm S s other cpu ticks true o there told = absurd cc
delays-arm S s other cpu ticks false (Some p) there told = absurd cc
delays-arm S s other cpu ticks false None there told = arms S s other.0 cpu ticks there

mods-arm : (S : ScenarioContents) (s : State) (other : WorkId) (cpu ticks : ℕ) (changed b : Bool) (o : Option Pending) → other.0 < length s.pending
    → (mod_from_body S s other cpu ticks b o).1 ≡ event.Mods other ticks changed → IsArmed S s other.0 ticks cpu (mod_from_body S s other cpu ticks b o).0.pending
mods-arm S s other cpu ticks changed true o there told = absurd cc
mods-arm S s other cpu ticks changed false o there told = arms-anew S s other.0 cpu ticks o there

module _ (S : ScenarioContents) (s : State) (long : length s.pending ≡ length S.works) (setting : IsSetting S) (work other : WorkId) (ticks : ℕ) where
  -- the operation of the body that runs so leaves the work item armed, if its event is this one
  abbrev Arms : Running → Event → Op → Type 0
  Arms r e o = (carry_out S s work.0 r o).1 ≡ e → IsArmed S s other.0 ticks (local_cpu S r.pool) (carry_out S s work.0 r o).0.pending

  module _ (r : Running) (runs : running_at s work.0 ≡ Some r) where
    here : (o : Op) → op_at S work.0 r.pc ≡ o → IsOpInRange S o
    here o at = subst (IsOpInRange S) at (setting.ops work.0 r.pc)

    onward-armed : (pending : List (Option Pending)) → IsArmed S (onward s work.0 r) other.0 ticks (local_cpu S r.pool) pending → IsArmed S s other.0 ticks (local_cpu S r.pool) pending
    onward-armed pending = armed-before S s (onward s work.0 r) pending other.0 ticks (local_cpu S r.pool) refl (onward-pool S s work.0 other.0 (local_cpu S r.pool) r runs)

    delays : op_at S work.0 r.pc ≡ op.Delay other ticks → Arms r (event.Delays other ticks false) (op.Delay other ticks)
    delays at told =
        let within : other.0 < length S.works = here (op.Delay other ticks) at in
        onward-armed (carry_out S s work.0 r (op.Delay other ticks)).0.pending
        (delays-arm S (onward s work.0 r) other (local_cpu S r.pool) ticks (is_disabled s other.0) (pending_at s other.0) (omega (arith, long, within)) told)

    mods : (changed : Bool) → op_at S work.0 r.pc ≡ op.Mod other ticks → Arms r (event.Mods other ticks changed) (op.Mod other ticks)
    mods changed at told =
        let within : other.0 < length S.works = here (op.Mod other ticks) at in
        onward-armed (carry_out S s work.0 r (op.Mod other ticks)).0.pending
        (mods-arm S (onward s work.0 r) other (local_cpu S r.pool) ticks changed (is_disabled s other.0) (pending_at s other.0) (omega (arith, long, within)) told)

  module _ (r : Running) (runs : running_at s work.0 ≡ Some r) where
    -- what an operation does that is known from its event
    known : (e : Event) (o named : Op) (q : Running) → running_at s work.0 ≡ Some q → op_at S work.0 q.pc ≡ o → o ≡ named
        → ((p : Running) → running_at s work.0 ≡ Some p → op_at S work.0 p.pc ≡ named → Arms p e named) → (carry_out S s work.0 q o).1 ≡ e
        → IsArmed S s other.0 ticks (local_cpu S r.pool) (carry_out S s work.0 q o).0.pending
    known e o named q is at said does told =
        let same : q ≡ r = cc in
        subst (λ (p : Running). IsArmed S s other.0 ticks (local_cpu S p.pool) (carry_out S s work.0 q o).0.pending) same (subst (Arms q e) (sym said) (does q is (at ∙ said)) told)

    armed-then : (e : Event) (pool : ℕ) (i : Instr) → (i ≡ instr.Step pool) ⊎ (i ≡ instr.Next) → QueuesAfter e other ticks → reply_to S s i ≡ reply.Event work e
        → IsArmed S s other.0 ticks (local_cpu S r.pool) (state_after S s i).pending
    armed-then e pool i which (inl delays_it) told =
        let x : Event = event.Delays other ticks false in
        at-instruction S s work x refl (IsArmed S s other.0 ticks (local_cpu S r.pool)) (λ q o is at says. known x o (op.Delay other ticks) q is at says delays) (λ fires. cc) pool i which
        (told ∙ ap (reply.Event work) delays_it)
    armed-then e pool i which (inr mods_it) told =
        let x : Event = event.Mods other ticks mods_it.0 in
        at-instruction S s work x refl (IsArmed S s other.0 ticks (local_cpu S r.pool)) (λ q o is at says. known x o (op.Mod other ticks) q is at says (λ p runs_so. mods p runs_so mods_it.0)) (λ fires. cc) pool i which
        (told ∙ ap (reply.Event work) mods_it.1)

pub bodies_set_timers : AtEveryInstruction BodiesSetTimers
unfolding BodiesSetTimers
bodies_set_timers S valid instrs i pool work other r e ticks which told after runs more =
    (armed-then S (run S instrs) (pending-long S instrs) (IsSetting-valid S valid) work other ticks r runs e pool i which after told).0 more

pub bodies_place_at_once : AtEveryInstruction BodiesPlaceAtOnce
unfolding BodiesPlaceAtOnce
bodies_place_at_once S valid instrs i pool work other r e which told after runs =
    (armed-then S (run S instrs) (pending-long S instrs) (IsSetting-valid S valid) work other 0 r runs e pool i which after told).1 refl

-- Cancelling.

-- the work item was pending, if that is told, and isn't so then
abbrev IsCancelled : State → WorkId → Bool → List (Option Pending) → Type 0
IsCancelled s other was pending = (is_some (pending_at s other.0) ≡ was) × (slice_index_or pending other.0 None ≡ None)

gone : (S : ScenarioContents) (s : State) (w : ℕ) (o : Option Pending) → pending_at s w ≡ o → pending_at (taken_off S s w o) w ≡ None
gone S s w (Some p) is = taken_off-idle S s w p
gone S s w None is = is

cancels : (S : ScenarioContents) (s : State) (w : ℕ) (r : Running) (other : WorkId) (was : Bool) → event.Cancels other (is_some (pending_at s other.0)) ≡ event.Cancels other was
    → IsCancelled s other was (carry_out S s w r (op.Cancel other)).0.pending
cancels S s w r other was told = (let tells : is_some (pending_at s other.0) ≡ was = cc in (tells, gone S (onward s w r) other.0 (pending_at s other.0) refl))

pub bodies_cancel : AtEveryInstruction BodiesCancel
unfolding BodiesCancel
bodies_cancel S valid instrs i pool work other was =
    let s = run S instrs in
    let e : Event = event.Cancels other was in
    at-instruction S s work e refl (IsCancelled s other was)
    (λ r o is at says. subst (λ (x : Op). (carry_out S s work.0 r x).1 ≡ e → IsCancelled s other was (carry_out S s work.0 r x).0.pending) (sym says) (cancels S s work.0 r other was)) (λ fires. cc) pool i
