-- States whose works differ in what they have left to burn alone have the same column.
use Rattle.std.proofs.Common.{◌≡◌, ℕ, zero, suc, ◌+◌, ◌<◌, ◌≤◌, Bool, true, false, cond, ◌&&◌, ◌||◌, List, [], ◌∷◌, length, map, Option, Some, None, arith, refl, sym, subst, ap, ◌∙◌}
use std.Path.{fun_ext}
use Rattle.std.specs.Prelude.{is_none, nat_lt, slice_index_or, ◌==◌}
use Rattle.cmwq_types.specs.Contents.{ScenarioContents}
use Rattle.cmwq_types.specs.First.{by_least, first_below, first_with}
use Rattle.cmwq_types.specs.Scenario.{is_high, is_unbound}
use Rattle.cmwq_types.specs.declared.reply.Mode.{Mode}
use Rattle.cmwq_types.proofs.FirstLemmas.{first_below-agree}
use Rattle.cmwq_table.specs.Counts.{burns, first_runnable, is_runnable, is_some_work, running_before, running_stamp, runs}
use Rattle.cmwq_table.specs.Moves.{burned, one_less, tick}
use Rattle.cmwq_table.specs.State.{State, pending_at, running_at}
use Rattle.cmwq_table.specs.declared.state.Pending.{Pending}
use Rattle.cmwq_table.specs.declared.state.Running.{Running}
use Rattle.cmwq_picture.specs.Arming.{armer, marked}
use Rattle.cmwq_picture.specs.Column.{burning, burning_as, column_of}
use Rattle.cmwq_picture.specs.Picture.{Deeds, below, second_cell, mode_sign, pending_cell, pending_shown, run_or_pending, run_sign, work_shown}
use Rattle.cmwq_picture.specs.declared.arming.Arming.{Arming}
use Rattle.cmwq_picture.specs.declared.cell.Cell.{Cell}
use Rattle.cmwq_picture.specs.declared.cell.Cell.TheVariants.{Does}
use Rattle.cmwq_picture.specs.declared.column.Burning.{Burning}
use Rattle.cmwq_picture.specs.declared.cell.Sign.{Sign}
use Rattle.cmwq_picture.specs.declared.cell.Sign.TheVariants as sign
use Rattle.cmwq_picture.proofs.ListLemmas.{filter_map-agree, map-agree}
use Rattle.cmwq_picture.proofs.TickLemmas.{IsTick}

-- The first, where orders and tests agree below n.

first_with-below : (before : ℕ → ℕ → Bool) (n m : ℕ) (b : Bool) (found : Option ℕ) → ((k : ℕ) → found ≡ Some k → k < n) → first_with before n b found ≡ Some m → m < suc n
first_with-below before n m false found below is = (let less : m < n = below m is in omega arith)
first_with-below before n m true None below is = (let same : n ≡ m = cc in omega arith)
first_with-below before n m true (Some k) below is = chosen (before n k) is
  where
    chosen : (c : Bool) → Some (cond c n k) ≡ Some m → m < suc n
    chosen true e = (let same : n ≡ m = cc in omega arith)
    chosen false e = (let same : k ≡ m = cc in let less : k < n = below k refl in omega arith)

first-below : (before : ℕ → ℕ → Bool) (test : ℕ → Bool) (n m : ℕ) → first_below before test n ≡ Some m → m < n
first-below before test zero m is = absurd cc
first-below before test (suc n) m is = first_with-below before n m (test n) (first_below before test n) (λ k e. first-below before test n k e) is

first_with-agree : (b c : ℕ → ℕ → Bool) (n : ℕ) (passes : Bool) (found : Option ℕ) → ((k : ℕ) → found ≡ Some k → b n k ≡ c n k) → first_with b n passes found ≡ first_with c n passes found
first_with-agree b c n false found same = refl
first_with-agree b c n true None same = refl
first_with-agree b c n true (Some m) same = ap (λ (t : Bool). Some (cond t n m)) (same m refl)

first-order : (b c : ℕ → ℕ → Bool) (test : ℕ → Bool) (n : ℕ) → ((v w : ℕ) → v < n → w < n → b v w ≡ c v w) → first_below b test n ≡ first_below c test n
first-order b c test zero same = refl
first-order b c test (suc n) same =
    let below : first_below b test n ≡ first_below c test n = first-order b c test n (λ v w v_below w_below. same v w (omega arith) (omega arith)) in
    first_with-agree b c n (test n) (first_below b test n) (λ k is. let less : k < n = first-below b test n k is in same n k (omega arith) (omega arith))
    ∙ ap (λ (found : Option ℕ). first_with c n (test n) found) below

-- Two works that run alike, but for what they have left to burn; or neither runs.
abbrev pub RunsAlike : Option Running → Option Running → Type 0
RunsAlike (Some r) (Some q) = (q.pool ≡ r.pool) × (q.worker ≡ r.worker) × (q.mode ≡ r.mode) × (q.stamp ≡ r.stamp)
RunsAlike (Some r) None = ⊥
RunsAlike None (Some q) = ⊥
RunsAlike None None = Unit {0}

-- The works of a scenario are pending alike and run alike.
pub record LooksAlike (works : ℕ) (s t : State) : Type 0 where
  pub pending : (w : ℕ) → w < works → pending_at t w ≡ pending_at s w
  pub running : (w : ℕ) → w < works → RunsAlike (running_at s w) (running_at t w)
  pub frozen : t.frozen ≡ s.frozen
  pub pressed : t.pressed ≡ s.pressed

stamps-alike : (a b : Option Running) → RunsAlike a b → running_stamp b ≡ running_stamp a
stamps-alike (Some r) (Some q) alike = alike.3
stamps-alike (Some r) None alike = absurd alike
stamps-alike None (Some q) alike = absurd alike
stamps-alike None None alike = refl

tests-alike : (pool : ℕ) (a b : Option Running) → RunsAlike a b → runs (λ r. (r.pool == pool) && is_runnable r.mode) b ≡ runs (λ r. (r.pool == pool) && is_runnable r.mode) a
tests-alike pool (Some r) (Some q) alike = ap (λ (at : ℕ). (at == pool) && is_runnable q.mode) alike.0 ∙ ap (λ (mode : Mode). (r.pool == pool) && is_runnable mode) alike.2
tests-alike pool (Some r) None alike = absurd alike
tests-alike pool None (Some q) alike = absurd alike
tests-alike pool None None alike = refl

-- whether a work burns, once the heads of the pools are known
burns_at : ScenarioContents → (ℕ → Option ℕ) → ℕ → ℕ → Mode → Bool
burns_at S heads w pool mode =
    cond (is_unbound S pool) (is_runnable mode) (is_some_work (heads pool) w && (is_high pool || is_none (heads (pool + 1))))

burns-at : (S : ScenarioContents) (s : State) (w : ℕ) (r : Running) → burns S s w (Some r) ≡ burns_at S (first_runnable S s) w r.pool r.mode
unfolding burns_at
burns-at S s w r = refl

module _ (S : ScenarioContents) (s t : State) (alike : LooksAlike (length S.works) s t) where
  head-alike : (pool : ℕ) → first_runnable S t pool ≡ first_runnable S s pool
  head-alike pool =
      let test = λ (x : State) (w : ℕ). runs (λ r. (r.pool == pool) && is_runnable r.mode) (running_at x w) in
      first-order (running_before t) (running_before s) (test t) (length S.works)
      (λ v w v_below w_below.
      ap (λ (k : ℕ). nat_lt k (running_stamp (running_at t w))) (stamps-alike (running_at s v) (running_at t v) (alike.running v v_below))
      ∙ ap (λ (k : ℕ). nat_lt (running_stamp (running_at s v)) k) (stamps-alike (running_at s w) (running_at t w) (alike.running w w_below)))
      ∙ first_below-agree (running_before s) (test t) (test s) (length S.works) (λ w less. tests-alike pool (running_at s w) (running_at t w) (alike.running w less))

  heads-alike : ◌≡◌ {A = ℕ → Option ℕ} (first_runnable S t) (first_runnable S s)
  heads-alike = fun_ext head-alike

  burns-alike : (w : ℕ) (r q : Running) → RunsAlike (Some r) (Some q) → burns S t w (Some q) ≡ burns S s w (Some r)
  burns-alike w r q same =
      burns-at S t w q
      ∙ ap (λ (heads : ℕ → Option ℕ). burns_at S heads w q.pool q.mode) heads-alike
      ∙ ap (λ (pool : ℕ). burns_at S (first_runnable S s) w pool q.mode) same.0
      ∙ ap (λ (mode : Mode). burns_at S (first_runnable S s) w r.pool mode) same.2
      ∙ sym (burns-at S s w r)

  run-alike : (w : ℕ) (r q : Running) → RunsAlike (Some r) (Some q) → run_sign S t w q ≡ run_sign S s w r
  run-alike w r q same =
      ap (λ (b : Bool). cond b sign.Burns (mode_sign q.mode)) (burns-alike w r q same)
      ∙ ap (λ (mode : Mode). cond (burns S s w (Some r)) sign.Burns (mode_sign mode)) same.2

  works-alike : (w : ℕ) (a b : Option Running) → RunsAlike a b → pending_at t w ≡ pending_at s w → run_or_pending S t w b ≡ run_or_pending S s w a
  works-alike w (Some r) (Some q) same pending = ap (λ (sign : Sign). Does sign) (run-alike w r q same)
  works-alike w (Some r) None same pending = absurd same
  works-alike w None (Some q) same pending = absurd same
  works-alike w None None same pending = ap pending_cell pending

  beside-alike : (a b : Option Running) (p q : Option Pending) → RunsAlike a b → q ≡ p → second_cell b q ≡ second_cell a p
  beside-alike (Some r) (Some x) p q same pending = ap pending_cell pending
  beside-alike (Some r) None p q same pending = absurd same
  beside-alike None (Some x) p q same pending = absurd same
  beside-alike None None p q same pending = refl

  burning-alike : (w : ℕ) (a b : Option Running) → RunsAlike a b → cond (burns S t w b) (burning_as w b) None ≡ cond (burns S s w a) (burning_as w a) None
  burning-alike w (Some r) (Some q) same =
      ap (λ (c : Bool). cond c (burning_as w (Some q)) None) (burns-alike w r q same)
      ∙ ap (λ (pool : ℕ). cond (burns S s w (Some r)) (Some (record { work = record { 0 = w }; pool = pool; worker = q.worker })) None) same.0
      ∙ ap (λ (worker : ℕ). cond (burns S s w (Some r)) (Some (record { work = record { 0 = w }; pool = r.pool; worker = worker })) None) same.1
  burning-alike w (Some r) None same = absurd same
  burning-alike w None (Some q) same = absurd same
  burning-alike w None None same = refl

  shown-alike : (armed : List Arming) (w : ℕ) (a b : Cell) (p q : Option Pending) → b ≡ a → q ≡ p → marked (armer armed w q) b ≡ marked (armer armed w p) a
  shown-alike armed w a b p q same pending =
      ap (λ (c : Cell). marked (armer armed w q) c) same ∙ ap (λ (o : Option Pending). marked (armer armed w o) a) pending

  pub column-alike : (deeds : Deeds) → column_of S t deeds ≡ column_of S s deeds
  column-alike deeds =
      let n = length S.works in
      let works = map-agree (work_shown S deeds.armed t) (work_shown S deeds.armed s) 0 n
      (λ w less.
      shown-alike deeds.armed w _ _ (pending_at s w) (pending_at t w)
      (works-alike w (running_at s w) (running_at t w) (alike.running w (omega arith)) (alike.pending w (omega arith))) (alike.pending w (omega arith))) in
      let pending = map-agree (pending_shown deeds.armed t) (pending_shown deeds.armed s) 0 n
      (λ w less.
      shown-alike deeds.armed w _ _ (pending_at s w) (pending_at t w)
      (beside-alike (running_at s w) (running_at t w) (pending_at s w) (pending_at t w) (alike.running w (omega arith)) (alike.pending w (omega arith))) (alike.pending w (omega arith))) in
      let burners = filter_map-agree (burning S t) (burning S s) 0 n (λ w less. burning-alike w (running_at s w) (running_at t w) (alike.running w (omega arith))) in
      rw (works, pending, burners, alike.frozen, alike.pressed) refl

-- A tick.

burned-one : (r : Option Running) (b : Bool) → RunsAlike r (cond b (one_less r) r)
burned-one (Some r) true = (refl, refl, refl, refl)
burned-one (Some r) false = (refl, refl, refl, refl)
burned-one None true = tt
burned-one None false = tt

burned-alike : (f : ℕ → Option Running → Bool) (w : ℕ) (rs : List (Option Running)) (i : ℕ) → RunsAlike (slice_index_or rs i None) (slice_index_or (burned f w rs) i None)
burned-alike f w [] i = tt
burned-alike f w (r ∷ rs) zero = burned-one r (f w r)
burned-alike f w (r ∷ rs) (suc i) = burned-alike f (w + 1) rs i

tick-alike : (S : ScenarioContents) (s : State) (spent works : ℕ) → LooksAlike works s (record (tick S s) { spent = spent })
tick-alike S s spent works = record { pending = λ w less. refl; running = λ w less. burned-alike (burns S s) 0 s.running w; frozen = refl; pressed = refl }

-- a tick leaves the column as it was
pub column-ticks : (S : ScenarioContents) (s t : State) (deeds : Deeds) → IsTick S s t → column_of S t deeds ≡ column_of S s deeds
column-ticks S s t deeds ticked =
    let after : State = record (tick S s) { spent = ticked.0 } in
    ap (λ (u : State). column_of S u deeds) ticked.1 ∙ column-alike S s after (tick-alike S s ticked.0 (length S.works)) deeds
