-- No change leaves room to an inactive work, but where an active instance leaves, and there the fill takes it.
use Rattle.std.proofs.Common.{◌≡◌, ℕ, ◌+◌, ◌≤◌, Bool, true, false, ◌&&◌, Option, Some, None, arith, refl, sym, ap, ◌∙◌, subst, inl, inr, ◌⊎◌}
use Rattle.std.proofs.lemmas.Bool.{cases_eq, eqb-true, ltb-false}
use Rattle.std.specs.Prelude.{◌==◌}
use Rattle.cmwq_types.specs.Contents.{ScenarioContents}
use Rattle.cmwq_types.specs.Scenario.{queue_of}
use Rattle.cmwq_table.specs.declared.state.Pending.{Pending}
use Rattle.cmwq_table.specs.declared.state.Running.{Running}
use Rattle.cmwq_table.specs.State.{State, pending_at, running_at}
use Rattle.cmwq_table.specs.Counts.{active, limit, has_room, is_active, is_inactive, pends, runs}
use Rattle.cmwq_table.specs.Moves.{fill}
use Rattle.cmwq_table.proofs.LawLemmas.Changes.{Kind, Change, Follows}
use Rattle.cmwq_table.proofs.LawLemmas.Counting.{bit}
use Rattle.cmwq_table.proofs.LawLemmas.Levels.{active_of, active-changed, Change-limit, falls, pool-same}
use Rattle.cmwq_table.proofs.LawLemmas.Fills.{IsFull, waits, fill-fills}
use Rattle.cmwq_table.proofs.LawLemmas.Sound.{IsSound, Fits, Change-sound, Follows-sound}

-- the change takes no active instance away from this queue in this pool
abbrev pub IsElsewhere : ScenarioContents → Option ℕ → ℕ → ℕ → ℕ → Type 0
IsElsewhere S left w queue pool = left ≡ Some pool → queue_of S w ≡ queue → ⊥

-- what a change must do to keep a queue full in a pool
record KeepsFull (S : ScenarioContents) (s : State) (w queue pool : ℕ) (a : Option Pending) (b : Option Running) (c : Option Pending) (d : Option Running) : Type 0 where
  level : active_of S w queue pool a b ≤ active_of S w queue pool c d
  waiting : queue_of S w ≡ queue → pends (λ place. is_inactive place pool) c ≡ true
      → (pends (λ place. is_inactive place pool) a ≡ true) ⊎ (limit S s queue ≤ active S s queue pool)

not-both : (S : ScenarioContents) (w queue at pool rest : ℕ) → IsElsewhere S (Some at) w queue pool → (x y : Bool) → (queue_of S w == queue) ≡ x
    → (at == pool) ≡ y → bit (x && y) + rest ≤ bit (x && false) + rest
not-both S w queue at pool rest elsewhere true true of_queue in_pool =
    absurd (elsewhere (ap Some (eqb-true at pool in_pool)) (eqb-true (queue_of S w) queue of_queue))
not-both S w queue at pool rest elsewhere true false of_queue in_pool = omega arith
not-both S w queue at pool rest elsewhere false y of_queue in_pool = omega arith

no-room : (S : ScenarioContents) (s : State) (w queue at pool : ℕ) → has_room S s (queue_of S w) at ≡ false → queue_of S w ≡ queue
    → (at == pool) ≡ true → limit S s queue ≤ active S s queue pool
no-room S s w queue at pool room of_queue in_pool =
    let there : has_room S s queue pool ≡ false = ap (λ (q : ℕ). has_room S s q pool) (sym of_queue) ∙ (ap (λ (a : ℕ). has_room S s (queue_of S w) a) (sym (eqb-true at pool in_pool)) ∙ room) in
    ltb-false (active S s queue pool) (limit S s queue) there

goes : (S : ScenarioContents) (s : State) (w queue pool : ℕ) (p : Option Pending) (r q : Running) → q.pool ≡ r.pool → KeepsFull S s w queue pool p (Some r) p (Some q)
goes S s w queue pool p r q e = record {
  level = pool-same (queue_of S w == queue) q.pool r.pool pool (bit ((queue_of S w == queue) && pends (λ place. is_active place pool) p)) (sym e);
  waiting = λ of_queue is. inl is;
}

Kind-full : (S : ScenarioContents) (places wakes : Bool) (s : State) (w : ℕ) (left : Option ℕ) (a : Option Pending) (b : Option Running) (c : Option Pending) (d : Option Running) (n queue pool : ℕ)
    → IsElsewhere S left w queue pool → Fits S s.next w a b → Kind S places wakes s w left a b c d n → KeepsFull S s w queue pool a b c d
Kind-full S places wakes s w left a b c d n queue pool elsewhere fits (Kind.placed r at e pool_fits with_run room enabled) =
    record { level = falls (queue_of S w == queue) (at == pool) (bit ((queue_of S w == queue) && runs (λ r. r.pool == pool) r)); waiting = λ of_queue is. cc }
Kind-full S places wakes s w left a b c d n queue pool elsewhere fits (Kind.put_off r at may_place pool_fits with_run room enabled) =
    record { level = omega arith; waiting = λ of_queue is. inr (no-room S s w queue at pool room of_queue is) }
Kind-full S places wakes s w left a b c d n queue pool elsewhere fits (Kind.timed r due cpu may_place h enabled) =
    record { level = omega arith; waiting = λ of_queue is. cc }
Kind-full S places wakes s w left a b c d n queue pool elsewhere fits (Kind.untimed born stamp r due cpu) =
    record { level = omega arith; waiting = λ of_queue is. cc }
Kind-full S places wakes s w left a b c d n queue pool elsewhere fits (Kind.taken_inactive born stamp r at) =
    record { level = omega arith; waiting = λ of_queue is. cc }
Kind-full S places wakes s w left a b c d n queue pool elsewhere fits (Kind.taken_listed born stamp r at) =
    record { level = not-both S w queue at pool (bit ((queue_of S w == queue) && runs (λ r. r.pool == pool) r)) elsewhere (queue_of S w == queue) (at == pool) refl refl; waiting = λ of_queue is. cc }
Kind-full S places wakes s w left a b c d n queue pool elsewhere fits (Kind.taken_deferred born stamp r at) =
    record { level = not-both S w queue at pool (bit ((queue_of S w == queue) && runs (λ r. r.pool == pool) r)) elsewhere (queue_of S w == queue) (at == pool) refl refl; waiting = λ of_queue is. cc }
Kind-full S places wakes s w left a b c d n queue pool elsewhere fits (Kind.activated born stamp r at room first) =
    record { level = falls (queue_of S w == queue) (at == pool) (bit ((queue_of S w == queue) && runs (λ r. r.pool == pool) r)); waiting = λ of_queue is. cc }
Kind-full S places wakes s w left a b c d n queue pool elsewhere fits (Kind.started born stamp at worker may free) =
    record { level = omega arith; waiting = λ of_queue is. cc }
Kind-full S places wakes s w left a b c d n queue pool elsewhere fits (Kind.deferred born stamp at r) =
    record { level = omega arith; waiting = λ of_queue is. cc }
Kind-full S places wakes s w left a b c d n queue pool elsewhere fits (Kind.goes_on p r q same_born same_pool same_worker mode) = goes S s w queue pool p r q same_pool
Kind-full S places wakes s w left a b c d n queue pool elsewhere fits (Kind.woken p r q wake same_born same_pool same_worker) = goes S s w queue pool p r q same_pool
Kind-full S places wakes s w left a b c d n queue pool elsewhere fits (Kind.again born stamp at r run) =
    let same : at ≡ r.pool = sym fits.pending.stands.1 in
    let less : bit ((queue_of S w == queue) && (r.pool == pool)) + bit ((queue_of S w == queue) && (r.pool == pool)) ≤ bit ((queue_of S w == queue) && false) + bit ((queue_of S w == queue) && (r.pool == pool)) =
    not-both S w queue r.pool pool (bit ((queue_of S w == queue) && (r.pool == pool))) elsewhere (queue_of S w == queue) (r.pool == pool) refl refl in
    let here : bit ((queue_of S w == queue) && (at == pool)) ≡ bit ((queue_of S w == queue) && (r.pool == pool)) = ap (λ (x : ℕ). bit ((queue_of S w == queue) && (x == pool))) same in
    record { level = omega arith; waiting = λ of_queue is. cc }
Kind-full S places wakes s w left a b c d n queue pool elsewhere fits (Kind.retired p r next e later) =
    let pending = bit ((queue_of S w == queue) && pends (λ place. is_active place pool) p) in
    let less : bit ((queue_of S w == queue) && (r.pool == pool)) + pending ≤ bit ((queue_of S w == queue) && false) + pending =
    not-both S w queue r.pool pool pending elsewhere (queue_of S w == queue) (r.pool == pool) refl refl in
    record { level = omega arith; waiting = λ of_queue is. inl is }

pub Change-full : (S : ScenarioContents) (places wakes : Bool) (left : Option ℕ) (s t : State) (w queue pool : ℕ) → IsSound S s
    → IsElsewhere S left w queue pool → Change S places wakes left s t w → IsFull S s queue pool → IsFull S t queue pool
Change-full S places wakes left s t w queue pool sound elsewhere change full v of_queue is_waiting =
    let keeps : KeepsFull S s w queue pool (pending_at s w) (running_at s w) change.p change.r = Kind-full S places wakes s w left (pending_at s w) (running_at s w) change.p change.r t.next queue pool elsewhere (sound.works w) change.kind in
    let changed : active S t queue pool + active_of S w queue pool (pending_at s w) (running_at s w) ≡ active S s queue pool + active_of S w queue pool change.p change.r = active-changed S s t w change.p change.r queue pool change.alters in
    let grows : active S s queue pool ≤ active S t queue pool = omega (arith, keeps.level) in
    let same : limit S t queue ≡ limit S s queue = Change-limit S places wakes left s t w change queue in
    let before : limit S s queue ≤ active S s queue pool =
    elim (cases_eq v w) [
      | inl v_is ↦ (let here : pends (λ place. is_inactive place pool) change.p ≡ true = ap (pends (λ place. is_inactive place pool)) (sym change.alters.pending_here) ∙ (ap (λ (k : ℕ). waits t k pool) (sym v_is) ∙ is_waiting) in
          elim (keeps.waiting (ap (queue_of S) (sym v_is) ∙ of_queue) here) [
            | inl was ↦ full w (ap (queue_of S) (sym v_is) ∙ of_queue) was
            | inr above ↦ above
          ])
      | inr v_ne ↦ full v of_queue (ap (pends (λ place. is_inactive place pool)) (sym (change.alters.pending_else v v_ne)) ∙ is_waiting)
    ] in
    omega arith

-- every queue is full in every pool
abbrev pub AreFull : ScenarioContents → State → Type 0
AreFull S s = (queue pool : ℕ) → IsFull S s queue pool

pub Follows-full : (S : ScenarioContents) (places wakes : Bool) (s t : State) (queue pool : ℕ) → Follows S places wakes s t → IsSound S s
    → IsFull S s queue pool → IsFull S t queue pool
Follows-full S places wakes s t queue pool (Follows.stays pl wk a) sound full = full
Follows-full S places wakes s t queue pool (Follows.changes pl wk a b c w change rest) sound full =
    Follows-full S places wakes b t queue pool rest (Change-sound S places wakes None s b w change sound)
    (Change-full S places wakes None s b w queue pool sound (λ e of_queue. cc) change full)
Follows-full S places wakes s t queue pool (Follows.leaves pl wk a b c w at change filled rest) sound full =
    let after = fill S (queue_of S w) at b in
    let sound_then : IsSound S b = Change-sound S places wakes (Some at) s b w change sound in
    let full_there : IsFull S after (queue_of S w) at = (fill-fills S places wakes (queue_of S w) at b change.alters.long).full in
    let full_then : IsFull S after queue pool =
    elim (cases_eq (queue_of S w) queue) [
      | inl of_queue ↦ elim (cases_eq at pool) [
        | inl in_pool ↦ subst (λ (q : ℕ). IsFull S after q pool) of_queue (subst (λ (x : ℕ). IsFull S after (queue_of S w) x) in_pool full_there)
        | inr other ↦ Follows-full S false wakes b after queue pool filled sound_then (Change-full S places wakes (Some at) s b w queue pool sound (λ e q. other cc) change full)
      ]
      | inr other ↦ Follows-full S false wakes b after queue pool filled sound_then (Change-full S places wakes (Some at) s b w queue pool sound (λ e q. other q) change full)
    ] in
    Follows-full S places wakes after t queue pool rest (Follows-sound S false wakes b after filled sound_then) full_then
