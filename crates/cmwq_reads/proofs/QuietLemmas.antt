-- What one work says of the whole machine.
use Rattle.std.proofs.Common.{◌≡◌, ℕ, zero, suc, ◌+◌, ◌<◌, Bool, true, false, cond, not, ◌&&◌, Option, Some, None, inl, inr, length, arith, refl, sym, ap}
use Rattle.std.proofs.lemmas.Bool.Decides.{nat_tests}
use Rattle.std.proofs.lemmas.Bool.{cases_lt, ltb-true}
use Rattle.std.specs.Prelude.{MatchOption, is_some, nat_lt, ◌==◌}
use Rattle.cmwq_types.specs.Contents.{ScenarioContents}
use Rattle.cmwq_types.specs.First.{count_below}
use Rattle.cmwq_table.specs.Counts.{is_quiet, pends_or_runs}
use Rattle.cmwq_table.specs.State.{State}
use Rattle.cmwq_reads.specs.Conditions.{is_at_work}

-- where a number passes, the count isn't 0
pub count_below-passes : (f : ℕ → Bool) (n k : ℕ) → k < n → f k ≡ true → 0 < count_below f n
count_below-passes f zero k h e = absurd (omega arith)
count_below-passes f (suc n) k h e =
    elim (cases_lt k n) [
      | inl below ↦ (let more : 0 < count_below f n = count_below-passes f n k below e in omega arith)
      | inr above ↦ (let same : k ≡ n = omega arith in
          let here : f n ≡ true = rw (← same) e in
          let one = ap (λ (b : Bool). cond {A = ℕ} b 1 0) here in omega (arith, one))
    ]

both : (a b : Bool) → (a && b) ≡ true → (a ≡ true) × (b ≡ true)
both true b e = (refl, e)
both false b e = cc

-- a machine with a work that is pending or runs isn't quiet
pub at_work-unquiet : (S : ScenarioContents) (s : State) (w : ℕ) → is_at_work S s w ≡ true → is_quiet S s ≡ false
at_work-unquiet S s w e =
    let parts = both (nat_lt w (length S.works)) (pends_or_runs s w) e in
    let some : 0 < count_below (pends_or_runs s) (length S.works) = count_below-passes (pends_or_runs s) (length S.works) w (ltb-true w (length S.works) parts.0) parts.1 in
    grind (arith, nat_tests)

-- it is quiet exactly where no work was found that is pending or runs
pub quiet-if : (S : ScenarioContents) (s : State) (o : Option ℕ) (none : Bool) → MatchOption o (is_quiet S s ≡ true) (λ w. is_at_work S s w ≡ true)
    → is_some o ≡ not none → none ≡ is_quiet S s
quiet-if S s (Some w) true e told = cc
quiet-if S s (Some w) false e told = sym (at_work-unquiet S s w e)
quiet-if S s None true e told = sym e
quiet-if S s None false e told = cc
