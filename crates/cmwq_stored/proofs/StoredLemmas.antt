-- What is kept of states tells them apart.
use Rattle.std.proofs.Common.{◌≡◌, ℕ, ◌+◌, ◌*◌, ◌/◌, ◌%◌, ◌≤◌, List, [], ◌∷◌, length, Option, Some, None, arith, refl, sym, ap, ◌∙◌}
use Rattle.cmwq_types.specs.Contents.{ScenarioContents}
use Rattle.cmwq_types.specs.declared.instr.WorkId.{WorkId}
use Rattle.cmwq_types.specs.declared.limits.TheConstants.{MAX_WORKERS}
use Rattle.cmwq_table.specs.State.{State}
use Rattle.cmwq_table.specs.View.{ViewContents, entries_from, idle_from, view_of}
use Rattle.cmwq_table.specs.declared.view.IdleWorker.{IdleWorker}
use Rattle.cmwq_orders.specs.Orders.{Explored}
use Rattle.cmwq_orders.specs.Sizes.{IsSized, IsWhole}
use Rattle.cmwq_stored.proofs.PackLemmas.{state-same}
use Rattle.cmwq_stored.specs.Stored.{TellsStatesApart, stored_of}

nil-cons : {A : Type 0} (x : A) (xs : List A) → [] ≡ x ∷ xs → ⊥
nil-cons x xs h = cc

head-same : {A : Type 0} (x y : A) (xs ys : List A) → x ∷ xs ≡ y ∷ ys → x ≡ y
head-same x y xs ys h = cc

tail-same : {A : Type 0} (x y : A) (xs ys : List A) → x ∷ xs ≡ y ∷ ys → xs ≡ ys
tail-same x y xs ys h = cc

-- Maps from works.

module _ {A : Type 0} where
  -- the first entry is of no work before the first
  first-entry : (ys : List (Option A)) (w : ℕ) (v : WorkId) (x : A) (rest : List (WorkId × A)) → entries_from w ys ≡ (v, x) ∷ rest → w ≤ v.0
  first-entry [] w v x rest h = absurd (nil-cons (v, x) rest h)
  first-entry (Some y ∷ ys) w v x rest h =
      let same : w ≡ v.0 = ap (λ (p : WorkId × A). p.0.0) (head-same (record { 0 = w }, y) (v, x) (entries_from (w + 1) ys) rest h) in
      omega (arith, same)
  first-entry (None ∷ ys) w v x rest h = let later = first-entry ys (w + 1) v x rest h in omega (arith, later)

  -- an entry of this work isn't among those of later ones
  not-later : (w : ℕ) (x : A) (rest : List (WorkId × A)) (ys : List (Option A)) → (record { 0 = w }, x) ∷ rest ≡ entries_from (w + 1) ys → ⊥
  not-later w x rest ys h = let late = first-entry ys (w + 1) (record { 0 = w }) x rest (sym h) in absurd (omega (arith, late))

  pub entries-same : (xs ys : List (Option A)) (w : ℕ) → length xs ≡ length ys → entries_from w xs ≡ entries_from w ys → xs ≡ ys
  entries-same [] [] w long h = refl
  entries-same [] (y ∷ ys) w long h = absurd (omega (arith, long))
  entries-same (x ∷ xs) [] w long h = absurd (omega (arith, long))
  entries-same (Some x ∷ xs) (Some y ∷ ys) w long h =
      let one : x ≡ y = ap (λ (p : WorkId × A). p.1) (head-same (record { 0 = w }, x) (record { 0 = w }, y) (entries_from (w + 1) xs) (entries_from (w + 1) ys) h) in
      let others : xs ≡ ys = entries-same xs ys (w + 1) (omega (arith, long)) (tail-same (record { 0 = w }, x) (record { 0 = w }, y) (entries_from (w + 1) xs) (entries_from (w + 1) ys) h) in
      λ i. Some (one i) ∷ others i
  entries-same (Some x ∷ xs) (None ∷ ys) w long h = absurd (not-later w x (entries_from (w + 1) xs) ys h)
  entries-same (None ∷ xs) (Some y ∷ ys) w long h = absurd (not-later w y (entries_from (w + 1) ys) xs (sym h))
  entries-same (None ∷ xs) (None ∷ ys) w long h = ap (λ (zs : List (Option A)). None ∷ zs) (entries-same xs ys (w + 1) (omega (arith, long)) h)

-- Idle workers.

seat-of : IdleWorker → ℕ
seat-of worker = MAX_WORKERS * worker.pool + worker.worker

at-seat : (seat stamp : ℕ) → seat-of (record { pool = seat / MAX_WORKERS; worker = seat % MAX_WORKERS; stamp = stamp }) ≡ seat
unfolding seat-of
at-seat seat stamp = omega arith

first-idle : (ys : List (Option ℕ)) (seat : ℕ) (worker : IdleWorker) (rest : List IdleWorker) → idle_from seat ys ≡ worker ∷ rest → seat ≤ seat-of worker
first-idle [] seat worker rest h = absurd (nil-cons worker rest h)
first-idle (Some stamp ∷ ys) seat worker rest h =
    let same = ap seat-of (head-same (record { pool = seat / MAX_WORKERS; worker = seat % MAX_WORKERS; stamp = stamp }) worker (idle_from (seat + 1) ys) rest h) in
    let here = at-seat seat stamp in
    omega (arith, same, here)
first-idle (None ∷ ys) seat worker rest h = let later = first-idle ys (seat + 1) worker rest h in omega (arith, later)

not-later-seat : (seat stamp : ℕ) (rest : List IdleWorker) (ys : List (Option ℕ))
    → record { pool = seat / MAX_WORKERS; worker = seat % MAX_WORKERS; stamp = stamp } ∷ rest ≡ idle_from (seat + 1) ys → ⊥
not-later-seat seat stamp rest ys h =
    let late = first-idle ys (seat + 1) (record { pool = seat / MAX_WORKERS; worker = seat % MAX_WORKERS; stamp = stamp }) rest (sym h) in
    let here = at-seat seat stamp in
    absurd (omega (arith, late, here))

pub idle-same : (xs ys : List (Option ℕ)) (seat : ℕ) → length xs ≡ length ys → idle_from seat xs ≡ idle_from seat ys → xs ≡ ys
idle-same [] [] seat long h = refl
idle-same [] (y ∷ ys) seat long h = absurd (omega (arith, long))
idle-same (x ∷ xs) [] seat long h = absurd (omega (arith, long))
idle-same (Some x ∷ xs) (Some y ∷ ys) seat long h =
    let a : IdleWorker = record { pool = seat / MAX_WORKERS; worker = seat % MAX_WORKERS; stamp = x } in
    let b : IdleWorker = record { pool = seat / MAX_WORKERS; worker = seat % MAX_WORKERS; stamp = y } in
    let one : x ≡ y = ap (λ (w : IdleWorker). w.stamp) (head-same a b (idle_from (seat + 1) xs) (idle_from (seat + 1) ys) h) in
    let others : xs ≡ ys = idle-same xs ys (seat + 1) (omega (arith, long)) (tail-same a b (idle_from (seat + 1) xs) (idle_from (seat + 1) ys) h) in
    λ i. Some (one i) ∷ others i
idle-same (Some x ∷ xs) (None ∷ ys) seat long h = absurd (not-later-seat seat x (idle_from (seat + 1) xs) ys h)
idle-same (None ∷ xs) (Some y ∷ ys) seat long h = absurd (not-later-seat seat y (idle_from (seat + 1) ys) xs (sym h))
idle-same (None ∷ xs) (None ∷ ys) seat long h = ap (λ (zs : List (Option ℕ)). None ∷ zs) (idle-same xs ys (seat + 1) (omega (arith, long)) h)

-- States.

pub view-same : (S : ScenarioContents) (s t : State) → IsSized S s → IsSized S t → view_of s ≡ view_of t → s ≡ t
view-same S s t one other h =
    let pending = entries-same s.pending t.pending 0 (one.pending ∙ sym other.pending) (ap (λ (v : ViewContents). v.pending) h) in
    let running = entries-same s.running t.running 0 (one.running ∙ sym other.running) (ap (λ (v : ViewContents). v.running) h) in
    let idle = idle-same s.idle t.idle 0 (one.idle ∙ sym other.idle) (ap (λ (v : ViewContents). v.idle) h) in
    λ i. record {
      time = (h i).time;
      next = (h i).next;
      spent = (h i).spent;
      frozen = (h i).frozen;
      pressed = (h i).pressed;
      max = (h i).max;
      pending = pending i;
      running = running i;
      depth = (h i).depth;
      idle = idle i;
      made = (h i).made;
      flushes = (h i).flushes;
    }

-- two states of one scenario of which the same is kept are one
pub stored_same : (S : ScenarioContents) (e f : Explored) → IsWhole S e → IsWhole S f → stored_of e ≡ stored_of f → e ≡ f
unfolding stored_of
stored_same S e f one other h =
    let parts = state-same (view_of e.machine) (view_of f.machine) e.at f.at e.waits f.waits h in
    let machine = view-same S e.machine f.machine one.machine other.machine parts.0 in
    λ i. record { machine = machine i; at = parts.1 i; waits = parts.2 i }

pub tells_states_apart : TellsStatesApart
unfolding TellsStatesApart
tells_states_apart = stored_same
