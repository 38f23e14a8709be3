-- That a freezable queue is busy, said of works, is what its active counts say.
use Rattle.std.proofs.Common.{◌≡◌, ℕ, zero, suc, ◌+◌, ◌<◌, Bool, true, not, ◌&&◌, ◌||◌, length, Option, Some, None, arith, refl, ap, ◌∙◌, ◌⊎◌, inl, inr}
use Rattle.std.proofs.lemmas.Bool.{and_from, and_parts, cases_Bool, eq-eqb, eqb-true, ne_eqb, or_cases, or_left, or_right}
use Rattle.std.specs.Prelude.{is_some, ◌==◌}
use Rattle.cmwq_types.specs.Contents.{ScenarioContents}
use Rattle.cmwq_types.specs.First.{count_below}
use Rattle.cmwq_types.specs.Scenario.{flags_at, queue_of}
use Rattle.cmwq_types.specs.declared.reply.Place.{Place}
use Rattle.cmwq_types.specs.declared.reply.Place.TheVariants.{Timer, Inactive, Listed, Deferred}
use Rattle.cmwq_table.specs.declared.state.Pending.{Pending}
use Rattle.cmwq_table.specs.declared.state.Running.{Running}
use Rattle.cmwq_table.specs.State.{State, pending_at, running_at}
use Rattle.cmwq_table.specs.Counts.{active, is_activated, is_active, is_busy, is_busy_work, pends, runs}
use Rattle.cmwq_table.specs.Laws.{HasActiveIn, InEveryState, TellsActive}
use Rattle.cmwq_table.specs.Table.{run}
use Rattle.cmwq_table.proofs.LawLemmas.Counting.{bit, count_below-passes}

-- Counts.

-- where the count isn't 0, some number passes
count_below-some : (f : ℕ → Bool) (n : ℕ) → 0 < count_below f n → (k : ℕ) × (k < n) × (f k ≡ true)
count_below-some f zero h = absurd (omega arith)
count_below-some f (suc n) h =
    elim (cases_Bool (f n)) [
      | inl e ↦ (n, omega arith, e)
      | inr e ↦ (let here : bit (f n) ≡ 0 = ap bit e in
          let found = count_below-some f n (omega arith) in
          (found.0, omega (arith, found.1), found.2))
    ]

counted : (c : ℕ) → not (c == 0) ≡ true → 0 < c
counted zero e = cc
counted (suc c) e = omega arith

uncounted : (c : ℕ) → 0 < c → not (c == 0) ≡ true
uncounted zero h = absurd (omega arith)
uncounted (suc c) h = ap not (ne_eqb (suc c) 0 (λ e. omega arith))

-- Places and runs.

place-there : (place : Place) → is_activated place ≡ true → (pool : ℕ) × (is_active place pool ≡ true)
place-there (Timer due cpu) e = cc
place-there (Inactive at) e = cc
place-there (Listed at) e = (at, eq-eqb at at refl)
place-there (Deferred at) e = (at, eq-eqb at at refl)

pending-there : (o : Option Pending) → pends is_activated o ≡ true → (pool : ℕ) × (pends (λ place. is_active place pool) o ≡ true)
pending-there (Some p) e = place-there p.place e
pending-there None e = cc

running-there : (o : Option Running) → is_some o ≡ true → (pool : ℕ) × (runs (λ r. r.pool == pool) o ≡ true)
running-there (Some r) e = (r.pool, eq-eqb r.pool r.pool refl)
running-there None e = cc

place-activated : (place : Place) (pool : ℕ) → is_active place pool ≡ true → is_activated place ≡ true
place-activated (Timer due cpu) pool e = cc
place-activated (Inactive at) pool e = cc
place-activated (Listed at) pool e = refl
place-activated (Deferred at) pool e = refl

pending-activated : (o : Option Pending) (pool : ℕ) → pends (λ place. is_active place pool) o ≡ true → pends is_activated o ≡ true
pending-activated (Some p) pool e = place-activated p.place pool e
pending-activated None pool e = cc

running-some : (o : Option Running) (pool : ℕ) → runs (λ r. r.pool == pool) o ≡ true → is_some o ≡ true
running-some (Some r) pool e = refl
running-some None pool e = cc

-- The two counts of a queue's active works in a pool.

abbrev pending_in : ScenarioContents → State → ℕ → ℕ → ℕ → Bool
pending_in S s queue pool w = (queue_of S w == queue) && pends (λ place. is_active place pool) (pending_at s w)

abbrev running_in : ScenarioContents → State → ℕ → ℕ → ℕ → Bool
running_in S s queue pool w = (queue_of S w == queue) && runs (λ r. r.pool == pool) (running_at s w)

by-pending : (S : ScenarioContents) (s : State) (w pool : ℕ) → w < length S.works → (flags_at S (queue_of S w)).freezable ≡ true
    → pends (λ place. is_active place pool) (pending_at s w) ≡ true → HasActiveIn S s
by-pending S s w pool h freezable there =
    let passes : pending_in S s (queue_of S w) pool w ≡ true =
    and_from (queue_of S w == queue_of S w) (pends (λ place. is_active place pool) (pending_at s w)) (eq-eqb (queue_of S w) (queue_of S w) refl) there in
    let some : 0 < count_below (pending_in S s (queue_of S w) pool) (length S.works) = count_below-passes (pending_in S s (queue_of S w) pool) (length S.works) w h passes in
    (queue_of S w, pool, freezable, omega arith)

by-running : (S : ScenarioContents) (s : State) (w pool : ℕ) → w < length S.works → (flags_at S (queue_of S w)).freezable ≡ true
    → runs (λ r. r.pool == pool) (running_at s w) ≡ true → HasActiveIn S s
by-running S s w pool h freezable there =
    let passes : running_in S s (queue_of S w) pool w ≡ true =
    and_from (queue_of S w == queue_of S w) (runs (λ r. r.pool == pool) (running_at s w)) (eq-eqb (queue_of S w) (queue_of S w) refl) there in
    let some : 0 < count_below (running_in S s (queue_of S w) pool) (length S.works) = count_below-passes (running_in S s (queue_of S w) pool) (length S.works) w h passes in
    (queue_of S w, pool, freezable, omega arith)

busy-active : (S : ScenarioContents) (s : State) → is_busy S s ≡ true → HasActiveIn S s
busy-active S s busy =
    let found = count_below-some (is_busy_work S s) (length S.works) (counted (count_below (is_busy_work S s) (length S.works)) busy) in
    let w : ℕ = found.0 in
    let parts = and_parts ((flags_at S (queue_of S w)).freezable) (pends is_activated (pending_at s w) || is_some (running_at s w)) found.2 in
    elim (or_cases (pends is_activated (pending_at s w)) (is_some (running_at s w)) parts.1) [
      | inl pending ↦ (let there = pending-there (pending_at s w) pending in by-pending S s w there.0 found.1 parts.0 there.1)
      | inr running ↦ (let there = running-there (running_at s w) running in by-running S s w there.0 found.1 parts.0 there.1)
    ]

work-busy : (S : ScenarioContents) (s : State) (queue w : ℕ) → (flags_at S queue).freezable ≡ true → (queue_of S w == queue) ≡ true
    → (pends is_activated (pending_at s w) || is_some (running_at s w)) ≡ true → is_busy_work S s w ≡ true
work-busy S s queue w freezable of_queue there =
    and_from ((flags_at S (queue_of S w)).freezable) (pends is_activated (pending_at s w) || is_some (running_at s w)) (ap (λ (q : ℕ). (flags_at S q).freezable) (eqb-true (queue_of S w) queue of_queue) ∙ freezable) there

some-busy : (S : ScenarioContents) (s : State) (w : ℕ) → w < length S.works → is_busy_work S s w ≡ true → is_busy S s ≡ true
some-busy S s w h passes =
    uncounted (count_below (is_busy_work S s) (length S.works)) (count_below-passes (is_busy_work S s) (length S.works) w h passes)

pending-busy : (S : ScenarioContents) (s : State) (queue pool : ℕ) → (flags_at S queue).freezable ≡ true
    → 0 < count_below (pending_in S s queue pool) (length S.works) → is_busy S s ≡ true
pending-busy S s queue pool freezable some =
    let found = count_below-some (pending_in S s queue pool) (length S.works) some in
    let w : ℕ = found.0 in
    let parts = and_parts (queue_of S w == queue) (pends (λ place. is_active place pool) (pending_at s w)) found.2 in
    some-busy S s w found.1 (work-busy S s queue w freezable parts.0 (or_left (pends is_activated (pending_at s w)) (is_some (running_at s w)) (pending-activated (pending_at s w) pool parts.1)))

running-busy : (S : ScenarioContents) (s : State) (queue pool : ℕ) → (flags_at S queue).freezable ≡ true
    → 0 < count_below (running_in S s queue pool) (length S.works) → is_busy S s ≡ true
running-busy S s queue pool freezable some =
    let found = count_below-some (running_in S s queue pool) (length S.works) some in
    let w : ℕ = found.0 in
    let parts = and_parts (queue_of S w == queue) (runs (λ r. r.pool == pool) (running_at s w)) found.2 in
    some-busy S s w found.1 (work-busy S s queue w freezable parts.0 (or_right (pends is_activated (pending_at s w)) (is_some (running_at s w)) (running-some (running_at s w) pool parts.1)))

one-counts : (a b : ℕ) → 0 < a + b → (0 < a) ⊎ (0 < b)
one-counts zero b h = inr (omega (arith, h))
one-counts (suc a) b h = inl (omega arith)

active-busy : (S : ScenarioContents) (s : State) (queue pool : ℕ) → (flags_at S queue).freezable ≡ true → 0 < active S s queue pool
    → is_busy S s ≡ true
active-busy S s queue pool freezable some =
    elim (one-counts (count_below (pending_in S s queue pool) (length S.works)) (count_below (running_in S s queue pool) (length S.works)) some) [
      | inl pending ↦ pending-busy S s queue pool freezable pending
      | inr running ↦ running-busy S s queue pool freezable running
    ]

pub tells_active : InEveryState TellsActive
unfolding TellsActive
tells_active S valid instrs =
    let s = run S instrs in
    (busy-active S s, active-busy S s)
