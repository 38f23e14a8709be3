-- Who stands in a list of the lines, and by which order; and who is first there.
use Rattle.std.proofs.Common.{◌≡◌, ℕ, ◌+◌, ◌*◌, ◌^◌, ◌<◌, Bool, true, false, ◌&&◌, ◌==◌, nat_lt, cond, List, length, Option, Some, None, IfSome, arith, refl, sym, ap, ◌∙◌, inl, inr}
use Rattle.std.proofs.lemmas.Bool.{cases_eq}
use Rattle.std.proofs.lemmas.Bool.Decides.{nat_tests}
use Rattle.cmwq_types.specs.Contents.{ScenarioContents}
use Rattle.cmwq_types.specs.First.{first_below, by_least}
use Rattle.cmwq_types.specs.Scenario.{is_unbound}
use Rattle.cmwq_lists.specs.ListContents.{ListContents, first_in, is_in, is_of, order_in}
use Rattle.cmwq_lists.specs.Ranks.{Holds}
use Rattle.cmwq_lists.proofs.CallerLemmas.{firsts_are_of_the_test, two_keys_are_one}
use Rattle.cmwq_phased.specs.Runs.{first_in_line, first_rested, is_awake, is_in_line, is_ready, is_rested, run_at, run_sleep, run_stamp, with_run}
use Rattle.cmwq_phased.specs.declared.run.Phase.{Phase}
use Rattle.cmwq_phased.specs.declared.run.Phase.TheVariants.{Ready, Held, Burning, Asleep, Slept}
use Rattle.cmwq_phased.specs.declared.run.Run.{Run}
use Rattle.cmwq_phased.specs.Indexes.{AreLined, AreRuns, rank_of, standing_of, stands_by}
use Rattle.cmwq_phased.specs.declared.pools.TheConstants.{MAX_POOLS}

-- The line of a pool.

-- who is in it, by phase
line_by : (unbound : Bool) (pool : ℕ) (r : Run) (phase : Phase) → pool < MAX_POOLS → is_of pool (rank_of (stands_by unbound r phase)) ≡ ((r.pool == pool) && cond unbound (is_ready phase) (is_awake phase))
line_by true pool r Ready small = grind (arith, nat_tests)
line_by false pool r Ready small = grind (arith, nat_tests)
line_by true pool r (Held left) small = grind (arith, nat_tests)
line_by false pool r (Held left) small = grind (arith, nat_tests)
line_by true pool r (Burning end) small = grind (arith, nat_tests)
line_by false pool r (Burning end) small = grind (arith, nat_tests)
line_by true pool r (Asleep until) small = grind (arith, nat_tests)
line_by false pool r (Asleep until) small = grind (arith, nat_tests)
line_by true pool r (Slept until) small = grind (arith, nat_tests)
line_by false pool r (Slept until) small = grind (arith, nat_tests)

-- who is in it
line_test : (S : ScenarioContents) (pool : ℕ) (run : Option Run) → pool < MAX_POOLS → is_of pool (rank_of (standing_of S run)) ≡ with_run (is_in_line S pool) run
line_test S pool None small = refl
line_test S pool (Some r) small =
    elim (cases_eq r.pool pool) [
      | inl same ↦
          let low : nat_lt r.pool MAX_POOLS ≡ true = grind (arith, nat_tests) in
          let here = line_by (is_unbound S r.pool) pool r r.phase small in
          let kind : is_unbound S r.pool ≡ is_unbound S pool = ap (is_unbound S) same in
          ap (λ (b : Bool). is_of pool (rank_of (cond b (stands_by (is_unbound S r.pool) r r.phase) None))) low ∙ here ∙ ap (λ (b : Bool). (r.pool == pool) && cond b (is_ready r.phase) (is_awake r.phase)) kind
      | inr other ↦
          let elsewhere : (r.pool == pool) ≡ false = grind (arith, nat_tests) in
          let nowhere = ap (λ (b : Bool). b && cond (is_unbound S pool) (is_ready r.phase) (is_awake r.phase)) elsewhere in
          by_pool (nat_lt r.pool MAX_POOLS) elsewhere ∙ sym nowhere
    ]
  where
    by_pool : (low : Bool) → (r.pool == pool) ≡ false → is_of pool (rank_of (cond low (stands_by (is_unbound S r.pool) r r.phase) None)) ≡ false
    by_pool true elsewhere = line_by (is_unbound S r.pool) pool r r.phase small ∙ ap (λ (b : Bool). b && cond (is_unbound S r.pool) (is_ready r.phase) (is_awake r.phase)) elsewhere
    by_pool false elsewhere = refl

-- its order is by stamp
line_order : (S : ScenarioContents) (pool : ℕ) (run : Option Run) → pool < MAX_POOLS → is_of pool (rank_of (standing_of S run)) ≡ true → order_in (rank_of (standing_of S run)) ≡ run_stamp run
line_order S pool None small passes = refl
line_order S pool (Some r) small passes = by_pool (nat_lt r.pool MAX_POOLS) passes
  where
    by_phase : (unbound : Bool) (phase : Phase) → is_of pool (rank_of (stands_by unbound r phase)) ≡ true → order_in (rank_of (stands_by unbound r phase)) ≡ r.stamp
    by_phase unbound Ready is = refl
    by_phase true (Held left) is = absurd (cc)
    by_phase false (Held left) is = refl
    by_phase true (Burning end) is = absurd (cc)
    by_phase false (Burning end) is = refl
    by_phase unbound (Asleep until) is = absurd (cc)
    by_phase unbound (Slept until) is = absurd (grind (arith, nat_tests))

    by_pool : (low : Bool) → is_of pool (rank_of (cond low (stands_by (is_unbound S r.pool) r r.phase) None)) ≡ true → order_in (rank_of (cond low (stands_by (is_unbound S r.pool) r r.phase) None)) ≡ r.stamp
    by_pool true is = by_phase (is_unbound S r.pool) r.phase is
    by_pool false is = absurd (cc)

-- its first is the first of its list
pub first_in_line_is : (S : ScenarioContents) (runs : List (Option Run)) (lines : ListContents) (pool : ℕ) → AreLined S runs lines → pool < MAX_POOLS → first_in lines pool ≡ first_in_line S runs pool
first_in_line_is S runs lines pool lined small =
    firsts_are_of_the_test lines pool (λ w. run_stamp (run_at runs w)) (λ w. with_run (is_in_line S pool) (run_at runs w)) holds
    ∙ ap (λ (n : ℕ). first_below (by_least (λ w. run_stamp (run_at runs w))) (λ w. with_run (is_in_line S pool) (run_at runs w)) n) lined.long
  where
    tests : (w : ℕ) → is_in lines pool w ≡ with_run (is_in_line S pool) (run_at runs w)
    tests w = ap (is_of pool) (lined.ties w) ∙ line_test S pool (run_at runs w) small

    holds : Holds lines pool (λ w. run_stamp (run_at runs w)) (λ w. with_run (is_in_line S pool) (run_at runs w))
    holds = record {
      works = λ w h. tests w;
      orders = λ w h passes. ap order_in (lined.ties w) ∙ line_order S pool (run_at runs w) small (line_test S pool (run_at runs w) small ∙ passes);
    }

-- Those of a pool whose sleep is over.

-- it is one of them
abbrev is_rested_in : ℕ → Run → Bool
is_rested_in pool r = (r.pool == pool) && is_rested r.phase

-- who stands in their list, by phase
rested_by : (unbound : Bool) (pool : ℕ) (r : Run) (phase : Phase) → r.pool < MAX_POOLS → is_of (MAX_POOLS + pool) (rank_of (stands_by unbound r phase)) ≡ ((r.pool == pool) && is_rested phase)
rested_by unbound pool r Ready small = grind (arith, nat_tests)
rested_by true pool r (Held left) small = grind (arith, nat_tests)
rested_by false pool r (Held left) small = grind (arith, nat_tests)
rested_by true pool r (Burning end) small = grind (arith, nat_tests)
rested_by false pool r (Burning end) small = grind (arith, nat_tests)
rested_by unbound pool r (Asleep until) small = grind (arith, nat_tests)
rested_by unbound pool r (Slept until) small = grind (arith, nat_tests)

-- who stands in their list
rested_test : (S : ScenarioContents) (pool : ℕ) (run : Option Run) → pool < MAX_POOLS → is_of (MAX_POOLS + pool) (rank_of (standing_of S run)) ≡ with_run (is_rested_in pool) run
rested_test S pool None small = refl
rested_test S pool (Some r) small = by_pool (nat_lt r.pool MAX_POOLS) refl
  where
    by_pool : (low : Bool) → nat_lt r.pool MAX_POOLS ≡ low → is_of (MAX_POOLS + pool) (rank_of (cond low (stands_by (is_unbound S r.pool) r r.phase) None)) ≡ is_rested_in pool r
    by_pool true e = rested_by (is_unbound S r.pool) pool r r.phase (grind (arith, nat_tests))
    by_pool false e = (let elsewhere : (r.pool == pool) ≡ false = grind (arith, nat_tests) in sym (ap (λ (b : Bool). b && is_rested r.phase) elsewhere))

-- their order is by (until, stamp)
rested_order : (S : ScenarioContents) (pool : ℕ) (run : Option Run) → is_of (MAX_POOLS + pool) (rank_of (standing_of S run)) ≡ true → order_in (rank_of (standing_of S run)) ≡ run_sleep run * 2 ^ 64 + run_stamp run
rested_order S pool None passes = absurd (cc)
rested_order S pool (Some r) passes = by_pool (nat_lt r.pool MAX_POOLS) refl passes
  where
    by_phase : (unbound : Bool) (phase : Phase) → r.pool < MAX_POOLS → is_of (MAX_POOLS + pool) (rank_of (stands_by unbound r phase)) ≡ true → order_in (rank_of (stands_by unbound r phase)) ≡ run_sleep (Some (record r { phase = phase })) * 2 ^ 64 + r.stamp
    by_phase unbound Ready low is = absurd (grind (arith, nat_tests))
    by_phase true (Held left) low is = absurd (cc)
    by_phase false (Held left) low is = absurd (grind (arith, nat_tests))
    by_phase true (Burning end) low is = absurd (cc)
    by_phase false (Burning end) low is = absurd (grind (arith, nat_tests))
    by_phase unbound (Asleep until) low is = absurd (cc)
    by_phase unbound (Slept until) low is = refl

    by_pool : (low : Bool) → nat_lt r.pool MAX_POOLS ≡ low → is_of (MAX_POOLS + pool) (rank_of (cond low (stands_by (is_unbound S r.pool) r r.phase) None)) ≡ true
        → order_in (rank_of (cond low (stands_by (is_unbound S r.pool) r r.phase) None)) ≡ run_sleep (Some r) * 2 ^ 64 + r.stamp
    by_pool true e is = by_phase (is_unbound S r.pool) r.phase (grind (arith, nat_tests)) is
    by_pool false e is = absurd (cc)

-- the first of them is the first of their list
pub first_rested_is : (S : ScenarioContents) (runs : List (Option Run)) (lines : ListContents) (pool : ℕ) → AreRuns S runs → AreLined S runs lines → pool < MAX_POOLS → first_in lines (MAX_POOLS + pool) ≡ first_rested S runs pool
first_rested_is S runs lines pool are lined small =
    firsts_are_of_the_test lines (MAX_POOLS + pool) number test holds
    ∙ ap (λ (n : ℕ). first_below (by_least number) test n) lined.long
    ∙ sym (two_keys_are_one (λ w. run_sleep (run_at runs w)) (λ w. run_stamp (run_at runs w)) test (length S.works) (λ w h passes. stamp_small (run_at runs w) (are.stamps w)))
  where
    number : ℕ → ℕ
    number w = run_sleep (run_at runs w) * 2 ^ 64 + run_stamp (run_at runs w)

    test : ℕ → Bool
    test w = with_run (is_rested_in pool) (run_at runs w)

    stamp_small : (run : Option Run) → IfSome run (λ r. r.stamp < 2 ^ 64) → run_stamp run < 2 ^ 64
    stamp_small None low = omega arith
    stamp_small (Some r) low = low

    holds : Holds lines (MAX_POOLS + pool) number test
    holds = record {
      works = λ w h. ap (is_of (MAX_POOLS + pool)) (lined.ties w) ∙ rested_test S pool (run_at runs w) small;
      orders = λ w h passes. ap order_in (lined.ties w) ∙ rested_order S pool (run_at runs w) (rested_test S pool (run_at runs w) small ∙ passes);
    }
