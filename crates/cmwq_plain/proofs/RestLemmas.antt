-- Nothing happens on a machine at rest, however long.
use Rattle.std.proofs.Common.{◌≡◌, ℕ, zero, suc, ◌+◌, Bool, true, false, cond, ◌&&◌, List, [], ◌∷◌, length, Option, Some, None, arith, refl, sym, ap, ◌∙◌, subst}
use Rattle.std.specs.List.{list_all}
use Rattle.std.specs.Prelude.{◌==◌, is_none, is_some, slice_index_or}
use Rattle.cmwq_types.specs.Contents.{ScenarioContents}
use Rattle.cmwq_types.specs.Scenario.{queue_of}
use Rattle.cmwq_types.proofs.FirstLemmas.{by_least-order, by_least_two-order, first_below-none}
use Rattle.cmwq_table.specs.Counts.{burns, first_due, first_listed, first_ready, first_rescued, first_runnable, first_slept, has_free_rescuer, is_due, is_listed, is_runnable, is_slept, may_start, pending_due, pending_stamp, pends, ready_head, running_stamp, running_until, runs}
use Rattle.cmwq_table.specs.Moves.{burned, next_move, start_move, tick}
use Rattle.cmwq_table.specs.State.{State, is_unbound, pending_at, pool_count, running_at}
use Rattle.cmwq_table.specs.declared.state.Pending.{Pending}
use Rattle.cmwq_table.specs.declared.state.Running.{Running}
use Rattle.cmwq_parts.specs.SettledTicks.{AreSettled, IsSettled, ticks}
use Rattle.cmwq_plain.specs.Rest.{is_at_rest}

both : (a b : Bool) → (a && b) ≡ true → (a ≡ true) × (b ≡ true)
both true b is = (refl, is)
both false b is = absurd cc

none-at : {A : Type 0} (xs : List (Option A)) → list_all is_none xs ≡ true → (k : ℕ) → slice_index_or xs k None ≡ None
none-at [] all k = refl
none-at (None ∷ xs) all zero = refl
none-at (None ∷ xs) all (suc k) = none-at xs all k
none-at (Some x ∷ xs) all k = absurd cc

same-either : {A : Type 0} (b : Bool) (x : A) → cond b x x ≡ x
same-either true x = refl
same-either false x = refl

-- where nothing runs, nobody burns
pub burned-none : (test : ℕ → Option Running → Bool) (w : ℕ) (rs : List (Option Running)) → list_all is_none rs ≡ true → burned test w rs ≡ rs
burned-none test w [] all = refl
burned-none test w (None ∷ rs) all =
    ap (λ (r : Option Running). r ∷ burned test (w + 1) rs) (same-either (test w None) None)
    ∙ ap (λ (rest : List (Option Running)). None ∷ rest) (burned-none test (w + 1) rs all)
burned-none test w (Some r ∷ rs) all = absurd cc

module _ (S : ScenarioContents) (s : State) (rests : is_at_rest s ≡ true) where
  pends-none : (w : ℕ) → pending_at s w ≡ None
  pends-none = none-at s.pending (both (list_all is_none s.pending) (list_all is_none s.running) rests).0

  runs-none : (w : ℕ) → running_at s w ≡ None
  runs-none = none-at s.running (both (list_all is_none s.pending) (list_all is_none s.running) rests).1

  pub due-none : first_due S s ≡ None
  due-none = first_below-none _ _ (length S.works) (by_least_two-order (λ w. pending_due (pending_at s w)) (λ w. pending_stamp (pending_at s w)))
      (λ w below. ap (pends (λ place. is_due place s.time)) (pends-none w))

  listed-none : (pool : ℕ) → first_listed S s pool ≡ None
  listed-none pool = first_below-none _ _ (length S.works) (by_least-order (λ w. pending_stamp (pending_at s w)))
      (λ w below. ap (pends (λ place. is_listed place pool)) (pends-none w))

  rescued-none : (pool : ℕ) → first_rescued S s pool ≡ None
  rescued-none pool = first_below-none _ _ (length S.works) (by_least-order (λ w. pending_stamp (pending_at s w)))
      (λ w below. ap (λ (p : Option Pending). pends (λ place. is_listed place pool) p && (is_none (running_at s w) && has_free_rescuer S s (queue_of S w))) (pends-none w))

  slept-none : (pool : ℕ) → first_slept S s pool ≡ None
  slept-none pool = first_below-none _ _ (length S.works) (by_least_two-order (λ w. running_until (running_at s w)) (λ w. running_stamp (running_at s w)))
      (λ w below. ap (runs (λ r. (r.pool == pool) && is_slept r.mode s.time)) (runs-none w))

  runnable-none : (pool : ℕ) → first_runnable S s pool ≡ None
  runnable-none pool = first_below-none _ _ (length S.works) (by_least-order (λ w. running_stamp (running_at s w)))
      (λ w below. ap (runs (λ r. (r.pool == pool) && is_runnable r.mode)) (runs-none w))

  ready-none : (pool : ℕ) → first_ready S s pool ≡ None
  ready-none pool = first_below-none _ _ (length S.works) (by_least-order (λ w. running_stamp (running_at s w)))
      (λ w below. ap (runs (λ r. (r.pool == pool) && is_runnable r.mode && (r.left == 0))) (runs-none w))

  head-none : (pool : ℕ) → ready_head S s pool ≡ None
  head-none pool = rw (ready-none pool, runnable-none pool) (same-either (is_unbound S pool) None)

  start-none : (pool : ℕ) → start_move S s pool ≡ None
  start-none pool = rw (listed-none pool, rescued-none pool) (same-either (may_start S s pool) None)

  pub move-none : (pool : ℕ) → next_move S s pool ≡ None
  move-none pool = rw (head-none pool, slept-none pool, start-none pool) refl

  pub settled : IsSettled S s
  settled = (due-none, first_below-none _ _ (pool_count S) (by_least-order (λ pool. pool)) (λ pool below. ap is_some (move-none pool)))

  -- a tick is one more of time
  pub rest-tick : tick S s ≡ record s { time = s.time + 1 }
  rest-tick = ap (λ (rs : List (Option Running)). record s { time = s.time + 1; running = rs }) (burned-none (burns S s) 0 s.running (both (list_all is_none s.pending) (list_all is_none s.running) rests).1)

-- and so many ticks are so much more
pub rest-ticks : (S : ScenarioContents) (count : ℕ) (s : State) → is_at_rest s ≡ true → ticks S s count ≡ record s { time = s.time + count }
rest-ticks S zero s rests = ap (λ (time : ℕ). record s { time = time }) (omega arith)
rest-ticks S (suc count) s rests =
    let place : (s.time + 1) + count ≡ s.time + suc count = omega arith in
    ap (λ (x : State). ticks S x count) (rest-tick S s rests)
    ∙ rest-ticks S count (record s { time = s.time + 1 }) rests
    ∙ ap (λ (time : ℕ). record s { time = time }) place

pub rest-settled : (S : ScenarioContents) (s : State) (count : ℕ) → is_at_rest s ≡ true → AreSettled S s count
rest-settled S s count rests = λ earlier below.
    subst (λ (x : State). IsSettled S x) (sym (rest-ticks S earlier s rests)) (settled S (record s { time = s.time + earlier }) rests)
