-- What pools see of the running works stays the same where they run alike in it.
use Rattle.std.proofs.Common.{◌≡◌, ◌%◌, ◌≢◌, ℕ, ◌<◌, Bool, true, false, cond, ◌&&◌, ◌||◌, ◌==◌, List, length, set, Option, Some, None, arith, refl, sym, ap, subst, ◌∙◌, inl, inr}
use Rattle.std.specs.Prelude.{nat_lt, not}
use Rattle.std.proofs.lemmas.Bool.{cases_eq}
use Rattle.std.proofs.lemmas.Bool.Decides.{nat_tests}
use Rattle.cmwq_types.specs.Contents.{ScenarioContents}
use Rattle.cmwq_types.specs.First.{by_least, by_least_two}
use Rattle.cmwq_types.specs.Scenario.{flags_at, is_unbound, queue_of}
use Rattle.cmwq_types.proofs.FirstLemmas.{by_least-order, by_least_two-order, count_below-agree}
use Rattle.cmwq_parts.specs.PoolSets.{has_pool}
use Rattle.cmwq_parts.specs.declared.pool_set.PoolSet.{PoolSet}
use Rattle.cmwq_phased.specs.Runs.{awake_in, first_in_line, first_rested, is_awake, is_in_line, is_ready, is_rested, rescued_of, run_at, run_sleep, run_stamp, with_run}
use Rattle.cmwq_phased.specs.declared.run.Phase.{Phase}
use Rattle.cmwq_phased.specs.declared.run.Run.{Run}
use Rattle.cmwq_running.specs.Heads.{if_run_ready, in_phase, ready_run}
use Rattle.cmwq_running.specs.Pools.{AreAlikeIn, AreAlikeOutside, IsAlikeIn}
use Rattle.cmwq_running.proofs.AlikeLemmas.{first_alike, first_of}
use Rattle.cmwq_running.proofs.HeadLemmas.{at_changed, at_other}

-- Alike runs.

pub alike_here : (pool : ℕ) (rs : List (Option Run)) → AreAlikeIn pool rs rs
alike_here pool rs w = record { runs = refl; rescued = refl; seen = refl }

pub alike_both : (pool : ℕ) (rs xs ys : List (Option Run)) → AreAlikeIn pool rs xs → AreAlikeIn pool xs ys → AreAlikeIn pool rs ys
alike_both pool rs xs ys one two w = record { runs = (one w).runs ∙ (two w).runs; rescued = (one w).rescued ∙ (two w).rescued; seen = (one w).seen ∙ (two w).seen }

-- a work that runs in another pool gets another phase
pub alike_in_phase : (rs : List (Option Run)) (w other : ℕ) (q : Run) (next : Phase) → w < length rs → run_at rs w ≡ Some q → other ≢ q.pool → AreAlikeIn other rs (set rs w (Some (in_phase q next)))
alike_in_phase rs w other q next within at apart v = elim (cases_eq v w) [
  | inl same ↦ subst (λ (k : ℕ). IsAlikeIn other (run_at rs k) (run_at (set rs w (Some (in_phase q next))) k)) (sym same)
      (subst (λ (o : Option Run). IsAlikeIn other o (run_at (set rs w (Some (in_phase q next))) w)) (sym at)
      (subst (λ (o : Option Run). IsAlikeIn other (Some q) o) (sym (at_changed rs w (Some (in_phase q next)) within)) (record { runs = refl; rescued = refl; seen = by_test (q.pool == other) refl })))
  | inr differs ↦ subst (λ (o : Option Run). IsAlikeIn other (run_at rs v) o) (sym (at_other rs w v (Some (in_phase q next)) differs)) (record { runs = refl; rescued = refl; seen = refl })
]
  where
    by_test : (b : Bool) → (q.pool == other) ≡ b → cond b (Some q) None ≡ cond b (Some (in_phase q next)) None
    by_test false e = refl
    by_test true e = absurd (apart (grind (arith, nat_tests)))

-- What stays the same.

module _ (S : ScenarioContents) (rs xs : List (Option Run)) (pool : ℕ) (alike : AreAlikeIn pool rs xs) where
  test_same : (u : Run → Bool) (w : ℕ) → with_run (λ r. (r.pool == pool) && u r) (run_at rs w) ≡ with_run (λ r. (r.pool == pool) && u r) (run_at xs w)
  test_same u w = of_runs (run_at rs w) (run_at xs w) (alike w)
    where
      by_tests : (r q : Run) (b c : Bool) → cond b (Some r) None ≡ cond c (Some q) None → (b && u r) ≡ (c && u q)
      by_tests r q true true e = (let same : r ≡ q = cc in ap u same)
      by_tests r q true false e = absurd (cc)
      by_tests r q false true e = absurd (cc)
      by_tests r q false false e = refl

      of_runs : (a b : Option Run) → IsAlikeIn pool a b → with_run (λ r. (r.pool == pool) && u r) a ≡ with_run (λ r. (r.pool == pool) && u r) b
      of_runs None None is = refl
      of_runs None (Some q) is = absurd (let both = is.runs in cc)
      of_runs (Some r) None is = absurd (let both = is.runs in cc)
      of_runs (Some r) (Some q) is = by_tests r q (r.pool == pool) (q.pool == pool) is.seen

  -- who runs in the pool runs the same
  run_same : (u : Run → Bool) (w : ℕ) → with_run (λ r. (r.pool == pool) && u r) (run_at rs w) ≡ true → run_at rs w ≡ run_at xs w
  run_same u w passes = of_runs (run_at rs w) (run_at xs w) (alike w) passes
    where
      by_tests : (r q : Run) (b c : Bool) → cond b (Some r) None ≡ cond c (Some q) None → (b && u r) ≡ true → Some r ≡ Some q
      by_tests r q true true e passes = e
      by_tests r q true false e passes = absurd (cc)
      by_tests r q false c e passes = absurd (cc)

      of_runs : (a b : Option Run) → IsAlikeIn pool a b → with_run (λ r. (r.pool == pool) && u r) a ≡ true → a ≡ b
      of_runs None b is passes = absurd (cc)
      of_runs (Some r) None is passes = absurd (let both = is.runs in cc)
      of_runs (Some r) (Some q) is passes = by_tests r q (r.pool == pool) (q.pool == pool) is.seen passes

  abbrev stands : Run → Bool
  stands = λ r. cond (is_unbound S pool) (is_ready r.phase) (is_awake r.phase)

  line_same : first_in_line S rs pool ≡ first_in_line S xs pool
  line_same =
      first_alike (by_least (λ w. run_stamp (run_at rs w))) (by_least (λ w. run_stamp (run_at xs w))) (λ w. with_run (is_in_line S pool) (run_at rs w)) (λ w. with_run (is_in_line S pool) (run_at xs w)) (length S.works)
      (by_least-order (λ w. run_stamp (run_at rs w))) (test_same stands)
      (λ a b p q.
      ap (λ (r : Option Run). nat_lt (run_stamp r) (run_stamp (run_at rs b))) (run_same stands a p)
      ∙ ap (λ (r : Option Run). nat_lt (run_stamp (run_at xs a)) (run_stamp r)) (run_same stands b q))

  pub ready_alike : ready_run S rs pool ≡ ready_run S xs pool
  ready_alike = by_first (first_in_line S rs pool) refl ∙ ap (if_run_ready xs) line_same
    where
      by_first : (o : Option ℕ) → first_in_line S rs pool ≡ o → if_run_ready rs o ≡ if_run_ready xs o
      by_first None is = refl
      by_first (Some w) is =
          ap (λ (r : Option Run). cond (with_run (λ r. is_ready r.phase) r) (Some w) None)
          (run_same stands w (first_of (λ w. run_stamp (run_at rs w)) (λ w. with_run (is_in_line S pool) (run_at rs w)) (length S.works) w is).passes)

  pub rested_alike : first_rested S rs pool ≡ first_rested S xs pool
  rested_alike =
      first_alike (by_least_two (λ w. run_sleep (run_at rs w)) (λ w. run_stamp (run_at rs w))) (by_least_two (λ w. run_sleep (run_at xs w)) (λ w. run_stamp (run_at xs w)))
      (λ w. with_run (λ r. (r.pool == pool) && is_rested r.phase) (run_at rs w)) (λ w. with_run (λ r. (r.pool == pool) && is_rested r.phase) (run_at xs w)) (length S.works)
      (by_least_two-order (λ w. run_sleep (run_at rs w)) (λ w. run_stamp (run_at rs w))) (test_same (λ r. is_rested r.phase))
      (λ a b p q.
      ap (λ (r : Option Run). nat_lt (run_sleep r) (run_sleep (run_at rs b)) || ((run_sleep r == run_sleep (run_at rs b)) && nat_lt (run_stamp r) (run_stamp (run_at rs b)))) (run_same (λ r. is_rested r.phase) a p)
      ∙ ap (λ (r : Option Run). nat_lt (run_sleep (run_at xs a)) (run_sleep r) || ((run_sleep (run_at xs a) == run_sleep r) && nat_lt (run_stamp (run_at xs a)) (run_stamp r))) (run_same (λ r. is_rested r.phase) b q))

  pub awake_alike : awake_in S rs pool ≡ awake_in S xs pool
  awake_alike = count_below-agree _ _ (length S.works) (λ w below. ap (λ (b : Bool). b && not (flags_at S (queue_of S w)).cpu_intensive) (test_same (λ r. is_awake r.phase) w))

  pub rescued_alike : (queue : ℕ) → rescued_of S rs queue ≡ rescued_of S xs queue
  rescued_alike queue = count_below-agree _ _ (length S.works) (λ w below. ap (λ (b : Bool). (queue_of S w == queue) && b) (alike w).rescued)

-- Sets of pools.

-- no pool is left out where nothing changed
pub alike_outside_none : (pools : PoolSet) (rs : List (Option Run)) → AreAlikeOutside pools rs rs
alike_outside_none pools rs pool small clear = alike_here pool rs

-- one pool more is left out
pub alike_outside_with : (pools later : PoolSet) (touched : ℕ) (rs xs ys : List (Option Run)) → ((other : ℕ) → other < 64 → has_pool later other ≡ (has_pool pools other || (other == touched % 64)))
    → AreAlikeOutside pools rs xs → ((other : ℕ) → other ≢ touched → AreAlikeIn other xs ys) → AreAlikeOutside later rs ys
alike_outside_with pools later touched rs xs ys grown so_far further pool small clear =
    let outside = neither (has_pool pools pool) (pool == touched % 64) (sym (grown pool small) ∙ clear) in
    alike_both pool rs xs ys (so_far pool small outside.0) (further pool (λ is. absurd (let other = outside.1 in let same : pool ≡ touched % 64 = omega (arith, is, small) in grind (arith, nat_tests))))
  where
    neither : (a b : Bool) → (a || b) ≡ false → (a ≡ false) × (b ≡ false)
    neither true b e = absurd (cc)
    neither false b e = (refl, e)
