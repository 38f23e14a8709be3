-- The head of a pool runs in it.
use Rattle.std.proofs.Common.{◌≡◌, ℕ, Bool, true, false, cond, ◌&&◌, Option, Some, None, length, arith, subst}
use Rattle.std.specs.Prelude.{◌==◌}
use Rattle.std.proofs.lemmas.Bool.Decides.{nat_tests}
use Rattle.cmwq_types.specs.Contents.{ScenarioContents}
use Rattle.cmwq_types.specs.First.{MatchFirst}
use Rattle.cmwq_types.proofs.FirstLemmas.{by_least-order, first_below-is_first}
use Rattle.cmwq_table.specs.Counts.{first_ready, first_runnable, if_ready, is_runnable, ready_head, running_before, running_stamp, runs}
use Rattle.cmwq_table.specs.State.{State, is_unbound, running_at}
use Rattle.cmwq_table.specs.declared.state.Running.{Running}

-- the tests ask for the pool
ready-in : (pool : ℕ) (r : Running) → ((r.pool == pool) && is_runnable r.mode && (r.left == 0)) ≡ true → r.pool ≡ pool
ready-in pool r passes = grind (arith, nat_tests)

runnable-in : (pool : ℕ) (r : Running) → ((r.pool == pool) && is_runnable r.mode) ≡ true → r.pool ≡ pool
runnable-in pool r passes = grind (arith, nat_tests)

runs-in : (pool : ℕ) (test : Running → Bool) → ((r : Running) → test r ≡ true → r.pool ≡ pool) → (o : Option Running) (r : Running) → runs test o ≡ true → o ≡ Some r → r.pool ≡ pool
runs-in pool test asks (Some q) r passes is =
    let there : q.pool ≡ pool = asks q passes in
    let same : q.pool ≡ r.pool = cc in
    cc
runs-in pool test asks None r passes is = cc

first-in : (pool : ℕ) (s : State) (test : Running → Bool) (before : ℕ → ℕ → Bool) (n : ℕ) → ((r : Running) → test r ≡ true → r.pool ≡ pool) → (o : Option ℕ)
    → MatchFirst before (λ w. runs test (running_at s w)) n o → (w : ℕ) (r : Running) → o ≡ Some w → running_at s w ≡ Some r → r.pool ≡ pool
first-in pool s test before n asks (Some v) first w r found is =
    let same : v ≡ w = cc in
    runs-in pool test asks (running_at s w) r (subst (λ (u : ℕ). runs test (running_at s u) ≡ true) same first.passes) is
first-in pool s test before n asks None none w r found is = cc

ready-in_pool : (S : ScenarioContents) (s : State) (pool w : ℕ) (r : Running) → first_ready S s pool ≡ Some w → running_at s w ≡ Some r → r.pool ≡ pool
ready-in_pool S s pool w r found is =
    let test = λ (r : Running). (r.pool == pool) && is_runnable r.mode && (r.left == 0) in
    first-in pool s test (running_before s) (length S.works) (ready-in pool) (first_ready S s pool)
    (first_below-is_first (running_before s) (λ w. runs test (running_at s w)) (length S.works) (by_least-order (λ w. running_stamp (running_at s w))))
    w r found is

runnable-in_pool : (S : ScenarioContents) (s : State) (pool w : ℕ) (r : Running) → first_runnable S s pool ≡ Some w → running_at s w ≡ Some r → r.pool ≡ pool
runnable-in_pool S s pool w r found is =
    let test = λ (r : Running). (r.pool == pool) && is_runnable r.mode in
    first-in pool s test (running_before s) (length S.works) (runnable-in pool) (first_runnable S s pool)
    (first_below-is_first (running_before s) (λ w. runs test (running_at s w)) (length S.works) (by_least-order (λ w. running_stamp (running_at s w))))
    w r found is

kept-if : (b : Bool) (v w : ℕ) → cond b (Some v) None ≡ Some w → Some v ≡ Some w
kept-if true v w e = e
kept-if false v w e = cc

if_ready-is : (s : State) (o : Option ℕ) (w : ℕ) → if_ready s o ≡ Some w → o ≡ Some w
if_ready-is s (Some v) w e = kept-if (runs (λ r. r.left == 0) (running_at s v)) v w e
if_ready-is s None w e = e

head-in_pool-if : (S : ScenarioContents) (s : State) (pool w : ℕ) (r : Running) (b : Bool) → cond b (first_ready S s pool) (if_ready s (first_runnable S s pool)) ≡ Some w
    → running_at s w ≡ Some r → r.pool ≡ pool
head-in_pool-if S s pool w r true found is = ready-in_pool S s pool w r found is
head-in_pool-if S s pool w r false found is = runnable-in_pool S s pool w r (if_ready-is s (first_runnable S s pool) w found) is

pub ready_head-in_pool : (S : ScenarioContents) (s : State) (pool w : ℕ) (r : Running) → ready_head S s pool ≡ Some w → running_at s w ≡ Some r → r.pool ≡ pool
ready_head-in_pool S s pool w r found is = head-in_pool-if S s pool w r (is_unbound S pool) found is

pub ruleset heads = (ready_head-in_pool)
