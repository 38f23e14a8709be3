-- What the table's words come to, of parts that answer quickly.
use Rattle.std.proofs.Common.{◌≡◌, ℕ, zero, suc, ◌+◌, ◌-◌, ◌<◌, ◌≤◌, Bool, true, false, cond, ◌&&◌, ◌||◌, ◌==◌, not, List, [], ◌∷◌, length, Option, Some, None, IfSome, arith, refl, sym, ap, subst, ◌∙◌}
use Rattle.std.specs.Prelude.{is_none, is_some, nat_lt}
use Rattle.std.proofs.lemmas.Bool.Decides.{nat_tests}
use Rattle.std.proofs.lemmas.Option.{same_Some}
use Rattle.cmwq_types.specs.Contents.{ScenarioContents}
use Rattle.cmwq_types.specs.First.{IsFirst, MatchFirst, by_greatest, by_least, count_below, or_else}
use Rattle.cmwq_types.specs.Scenario.{queue_of}
use Rattle.cmwq_types.proofs.FirstLemmas.{by_greatest-order, by_least-order, first_below-is_first, first_below-none}
use Rattle.cmwq_table.specs.Counts.{can_be_rescued, first_inactive, first_listed, first_rescued, free_worker, has_free_rescuer, idle_stamp, is_inactive, is_listed, last_idle, new_worker, pending_stamp, pends}
use Rattle.cmwq_table.specs.Moves.{burned, one_less}
use Rattle.cmwq_table.specs.State.{State, idle_at, made_at, pending_at, running_at}
use Rattle.cmwq_table.specs.declared.state.Running.{Running}
use Rattle.cmwq_core.specs.Staff.{runs_at}
use Rattle.cmwq_core.proofs.LayoutLemmas.{RunsOnAs}
use Rattle.cmwq_core.proofs.StaffLemmas.{IsFree}

-- Counts.

-- no more are counted than there are
pub count_most : (test : ℕ → Bool) (n : ℕ) → count_below test n ≤ n
count_most test zero = omega arith
count_most test (suc n) = (let rest = count_most test n in by_test (test n) rest)
  where
    by_test : (b : Bool) → count_below test n ≤ n → count_below test n + cond b 1 0 ≤ suc n
    by_test true rest = omega (arith, rest)
    by_test false rest = omega (arith, rest)

some_step : (c : ℕ) (b : Bool) → not (c + cond b 1 0 == 0) ≡ (not (c == 0) || b)
some_step c true = grind (arith, nat_tests)
some_step c false = by_none (c == 0) (ap (λ (n : ℕ). n == 0) (omega arith))
  where
    by_none : (b : Bool) → (c + 0 == 0) ≡ b → not (c + 0 == 0) ≡ (not b || false)
    by_none true e = ap not e
    by_none false e = ap not e

-- some number passes one of two tests if some passes the one, or some the other
pub some_of_either : (one other both : ℕ → Bool) (n : ℕ) → ((k : ℕ) → both k ≡ (one k || other k)) → not (count_below both n == 0) ≡ (not (count_below one n == 0) || not (count_below other n == 0))
some_of_either one other both zero tests = refl
some_of_either one other both (suc n) tests =
    some_step (count_below both n) (both n) ∙ ap (λ (b : Bool). b || both n) (some_of_either one other both n tests) ∙ ap (λ (b : Bool). (not (count_below one n == 0) || not (count_below other n == 0)) || b) (tests n)
    ∙ mixed (not (count_below one n == 0)) (not (count_below other n == 0)) (one n) (other n)
    ∙ ap (λ (b : Bool). b || (not (count_below other n == 0) || other n)) (sym (some_step (count_below one n) (one n)))
    ∙ ap (λ (b : Bool). not (count_below one n + cond (one n) 1 0 == 0) || b) (sym (some_step (count_below other n) (other n)))
  where
    mixed : (a b c d : Bool) → ((a || b) || (c || d)) ≡ ((a || c) || (b || d))
    mixed true b c d = refl
    mixed false true true d = refl
    mixed false true false d = refl
    mixed false false true d = refl
    mixed false false false d = refl

pub and_or : (a b c : Bool) → (a && (b || c)) ≡ ((a && b) || (a && c))
and_or true b c = refl
and_or false b c = refl

-- Who is found.

-- where nothing is listed, nothing can be rescued
pub none_rescued : (S : ScenarioContents) (s : State) (pool : ℕ) → first_listed S s pool ≡ None → first_rescued S s pool ≡ None
none_rescued S s pool none =
    first_below-none (by_least (λ w. pending_stamp (pending_at s w))) (can_be_rescued S s pool) (length S.works) (by_least-order (λ w. pending_stamp (pending_at s w)))
    (λ w h. ap (λ (b : Bool). b && (is_none (running_at s w) && has_free_rescuer S s (queue_of S w))) (listed w h))
  where
    listed : (w : ℕ) → w < length S.works → pends (λ place. is_listed place pool) (pending_at s w) ≡ false
    listed = subst (λ (o : Option ℕ). MatchFirst (by_least (λ w. pending_stamp (pending_at s w))) (λ w. pends (λ place. is_listed place pool) (pending_at s w)) (length S.works) o) none
        (first_below-is_first (by_least (λ w. pending_stamp (pending_at s w))) (λ w. pends (λ place. is_listed place pool) (pending_at s w)) (length S.works) (by_least-order (λ w. pending_stamp (pending_at s w))))

-- the first inactive work is pending
pub inactive_pends : (S : ScenarioContents) (s : State) (queue pool w : ℕ) → first_inactive S s queue pool ≡ Some w → pending_at s w ≡ None → ⊥
inactive_pends S s queue pool w first none = by_queue (queue_of S w == queue) is.passes
  where
    is : IsFirst (by_least (λ w. pending_stamp (pending_at s w))) (λ w. (queue_of S w == queue) && pends (λ place. is_inactive place pool) (pending_at s w)) (length S.works) w
    is = subst (λ (o : Option ℕ). MatchFirst (by_least (λ w. pending_stamp (pending_at s w))) (λ w. (queue_of S w == queue) && pends (λ place. is_inactive place pool) (pending_at s w)) (length S.works) o) first
        (first_below-is_first (by_least (λ w. pending_stamp (pending_at s w))) (λ w. (queue_of S w == queue) && pends (λ place. is_inactive place pool) (pending_at s w)) (length S.works) (by_least-order (λ w. pending_stamp (pending_at s w))))

    by_queue : (b : Bool) → (b && pends (λ place. is_inactive place pool) (pending_at s w)) ≡ true → ⊥
    by_queue false e = absurd (cc)
    by_queue true e = absurd (let no = ap (pends (λ place. is_inactive place pool)) none in cc)

-- the free worker is the last idle one, where one is idle
pub last_is_free : (o other : Option ℕ) (worker : ℕ) → or_else o other ≡ Some worker → IfSome o (λ last. last ≡ worker)
last_is_free None other worker e = tt
last_is_free (Some last) other worker e = same_Some last worker e

-- the free worker is idle, or the next to be made
pub free_worker_is : (S : ScenarioContents) (s : State) (pool worker : ℕ) → free_worker S s pool ≡ Some worker → IsFree s.idle s.made pool worker
free_worker_is S s pool worker free = by_last (last_idle S s pool) idle free
  where
    idle : MatchFirst (by_greatest (λ worker. idle_stamp (idle_at s pool worker))) (λ worker. is_some (idle_at s pool worker)) S.workers (last_idle S s pool)
    idle = first_below-is_first (by_greatest (λ worker. idle_stamp (idle_at s pool worker))) (λ worker. is_some (idle_at s pool worker)) S.workers (by_greatest-order (λ worker. idle_stamp (idle_at s pool worker)))

    by_new : (b : Bool) → cond b (Some (made_at s pool)) None ≡ Some worker → IsFree s.idle s.made pool worker
    by_new true e = IsFree.new (sym (same_Some (made_at s pool) worker e))
    by_new false e = absurd (cc)

    by_last : (o : Option ℕ) → MatchFirst (by_greatest (λ worker. idle_stamp (idle_at s pool worker))) (λ worker. is_some (idle_at s pool worker)) S.workers o → or_else o (new_worker S s pool) ≡ Some worker → IsFree s.idle s.made pool worker
    by_last (Some last) is e = IsFree.waits (subst (λ (v : ℕ). is_some (idle_at s pool v) ≡ true) (same_Some last worker e) is.passes)
    by_last None is e = by_new (not s.pressed && nat_lt (made_at s pool) S.workers) e

-- Ticks.

pub burned_long : (test : ℕ → Option Running → Bool) (w : ℕ) (rs : List (Option Running)) → length (burned test w rs) ≡ length rs
burned_long test w [] = refl
burned_long test w (r ∷ rs) = ap suc (burned_long test (w + 1) rs)

-- who runs after a tick ran before it, on the same worker and under the same stamp
pub burned_stems : (test : ℕ → Option Running → Bool) (w : ℕ) (rs : List (Option Running)) (v : ℕ) (q : Running) → runs_at (burned test w rs) v ≡ Some q → RunsOnAs rs v q
burned_stems test w [] v q e = absurd (cc)
burned_stems test w (r ∷ rs) (suc v) q e = (let was = burned_stems test (w + 1) rs v q e in record { before = was.before; runs = was.runs; pool = was.pool; worker = was.worker; stamp = was.stamp })
burned_stems test w (r ∷ rs) zero q e = by_run (test w r) r e
  where
    by_run : (b : Bool) (r : Option Running) → cond b (one_less r) r ≡ Some q → RunsOnAs (r ∷ rs) zero q
    by_run true None e = absurd (cc)
    by_run false None e = absurd (cc)
    by_run true (Some p) e = (let is = same_Some (record p { left = p.left - 1 }) q e in record { before = p; runs = refl; pool = ap (λ (q : Running). q.pool) is; worker = ap (λ (q : Running). q.worker) is; stamp = ap (λ (q : Running). q.stamp) is })
    by_run false (Some p) e = (let is = same_Some p q e in record { before = p; runs = refl; pool = ap (λ (q : Running). q.pool) is; worker = ap (λ (q : Running). q.worker) is; stamp = ap (λ (q : Running). q.stamp) is })

-- whom a rescuer can take doesn't run
pub rescued_still : (S : ScenarioContents) (s : State) (pool w : ℕ) → first_rescued S s pool ≡ Some w → running_at s w ≡ None
rescued_still S s pool w found =
    of_first (first_rescued S s pool) found
    (first_below-is_first (by_least (λ v. pending_stamp (pending_at s v))) (can_be_rescued S s pool) (length S.works) (by_least-order (λ v. pending_stamp (pending_at s v))))
  where
    still : (b : Bool) (o : Option Running) (c : Bool) → (b && (is_none o && c)) ≡ true → o ≡ None
    still true None c passes = refl
    still true (Some r) c passes = absurd (cc)
    still false o c passes = absurd (cc)

    of_first : (o : Option ℕ) → o ≡ Some w → MatchFirst (by_least (λ v. pending_stamp (pending_at s v))) (can_be_rescued S s pool) (length S.works) o → running_at s w ≡ None
    of_first None is first = absurd (cc)
    of_first (Some v) is first =
        let same : v ≡ w = cc in
        still (pends (λ place. is_listed place pool) (pending_at s w)) (running_at s w) (has_free_rescuer S s (queue_of S w))
        (subst (λ (k : ℕ). can_be_rescued S s pool k ≡ true) same first.passes)
