-- The ready head of a pool is runnable, and has nothing left to burn.
use Rattle.std.proofs.Common.{◌≡◌, ℕ, Bool, true, false, cond, Option, Some, None, length, arith, refl, subst, ap, ◌∙◌}
use Rattle.std.specs.Prelude.{◌==◌, ◌&&◌}
use Rattle.std.proofs.lemmas.Bool.Decides.{nat_tests}
use Rattle.cmwq_types.specs.Contents.{ScenarioContents}
use Rattle.cmwq_types.specs.First.{MatchFirst}
use Rattle.cmwq_types.specs.declared.reply.Mode.{Mode}
use Rattle.cmwq_types.specs.declared.reply.Mode.TheVariants.{Runnable, Asleep}
use Rattle.cmwq_types.proofs.FirstLemmas.{by_least-order, first_below-is_first}
use Rattle.cmwq_table.specs.Counts.{first_ready, first_runnable, if_ready, is_runnable, ready_head, running_before, running_stamp, runs}
use Rattle.cmwq_table.specs.State.{State, is_unbound, running_at}
use Rattle.cmwq_table.specs.declared.state.Running.{Running}

both : (a b : Bool) → (a && b) ≡ true → (a ≡ true) × (b ≡ true)
both true b e = (refl, e)
both false b e = absurd (cc)

runnable-mode : (mode : Mode) → is_runnable mode ≡ true → mode ≡ Runnable
runnable-mode Runnable is = refl
runnable-mode (Asleep until) is = absurd (cc)

at-rest : (r : Running) → is_runnable r.mode ≡ true → (r.left == 0) ≡ true → r ≡ record r { left = 0; mode = Runnable }
at-rest r runnable none =
    let left : r.left ≡ 0 = grind (arith, nat_tests) in
    ap (λ (n : ℕ). record r { left = n }) left ∙ ap (λ (mode : Mode). record r { left = 0; mode = mode }) (runnable-mode r.mode runnable)

-- who is the first that passes passes
passes-at : (s : State) (test : Running → Bool) (before : ℕ → ℕ → Bool) (n : ℕ) (o : Option ℕ) → MatchFirst before (λ w. runs test (running_at s w)) n o → (w : ℕ) (r : Running)
    → o ≡ Some w → running_at s w ≡ Some r → test r ≡ true
passes-at s test before n (Some v) first w r found is =
    let same : v ≡ w = cc in
    subst (λ (o : Option Running). runs test o ≡ true) is (subst (λ (u : ℕ). runs test (running_at s u) ≡ true) same first.passes)
passes-at s test before n None none w r found is = absurd (cc)

-- a head that is ready has nothing left
ready-left : (s : State) (o : Option ℕ) (w : ℕ) (r : Running) → if_ready s o ≡ Some w → running_at s w ≡ Some r → (o ≡ Some w) × ((r.left == 0) ≡ true)
ready-left s None w r found is = absurd (cc)
ready-left s (Some v) w r found is = by_test (runs (λ r. r.left == 0) (running_at s v)) refl found
  where
    by_test : (b : Bool) → runs (λ r. r.left == 0) (running_at s v) ≡ b → cond b (Some v) None ≡ Some w → (Some v ≡ Some w) × ((r.left == 0) ≡ true)
    by_test false passes found = absurd (cc)
    by_test true passes found =
        let same : v ≡ w = cc in
        (found, subst (λ (o : Option Running). runs (λ r. r.left == 0) o ≡ true) is (subst (λ (u : ℕ). runs (λ r. r.left == 0) (running_at s u) ≡ true) same passes))

pub ready_head-rests : (S : ScenarioContents) (s : State) (pool w : ℕ) (r : Running) → ready_head S s pool ≡ Some w → running_at s w ≡ Some r → r ≡ record r { left = 0; mode = Runnable }
ready_head-rests S s pool w r found is = by_kind (is_unbound S pool) found
  where
    by_kind : (b : Bool) → cond b (first_ready S s pool) (if_ready s (first_runnable S s pool)) ≡ Some w → r ≡ record r { left = 0; mode = Runnable }
    by_kind true found =
        let test = λ (r : Running). (r.pool == pool) && is_runnable r.mode && (r.left == 0) in
        let passes = passes-at s test (running_before s) (length S.works) (first_ready S s pool)
        (first_below-is_first (running_before s) (λ w. runs test (running_at s w)) (length S.works) (by_least-order (λ w. running_stamp (running_at s w)))) w r found is in
        let rest = both ((r.pool == pool) && is_runnable r.mode) (r.left == 0) passes in
        at-rest r (both (r.pool == pool) (is_runnable r.mode) rest.0).1 rest.1
    by_kind false found =
        let test = λ (r : Running). (r.pool == pool) && is_runnable r.mode in
        let ready = ready-left s (first_runnable S s pool) w r found is in
        let passes = passes-at s test (running_before s) (length S.works) (first_runnable S s pool)
        (first_below-is_first (running_before s) (λ w. runs test (running_at s w)) (length S.works) (by_least-order (λ w. running_stamp (running_at s w)))) w r ready.0 is in
        at-rest r (both (r.pool == pool) (is_runnable r.mode) passes).1 ready.1
