-- The CPU of each timer stays there.
use Rattle.std.proofs.Common.{◌≡◌, ℕ, zero, suc, List, [], ◌∷◌, Option, Some, None, replicate, subst}
use Rattle.std.specs.Prelude.{slice_index_or, slice_set}
use Rattle.cmwq_types.specs.Contents.{ScenarioContents}
use Rattle.cmwq_table.specs.declared.state.Pending.{Pending}
use Rattle.cmwq_parts.specs.Cpus.{HasCpu, HasCpuIfPending}

pub timers-set : (S : ScenarioContents) (ps : List (Option Pending)) (i : ℕ) (p : Option Pending) → ((w : ℕ) → HasCpuIfPending S (slice_index_or ps w None)) → HasCpuIfPending S p
    → (w : ℕ) → HasCpuIfPending S (slice_index_or (slice_set ps i p) w None)
timers-set S [] i p each here w = each w
timers-set S (q ∷ ps) zero p each here zero = here
timers-set S (q ∷ ps) zero p each here (suc w) = each (suc w)
timers-set S (q ∷ ps) (suc i) p each here zero = each zero
timers-set S (q ∷ ps) (suc i) p each here (suc w) = timers-set S ps i p (λ v. each (suc v)) here w

pub timers-none : (S : ScenarioContents) (n w : ℕ) → HasCpuIfPending S (slice_index_or (replicate n None) w None)
timers-none S zero w = tt
timers-none S (suc n) zero = tt
timers-none S (suc n) (suc w) = timers-none S n w

pub timer_at : (S : ScenarioContents) (ps : List (Option Pending)) (w : ℕ) (p : Pending) → ((v : ℕ) → HasCpuIfPending S (slice_index_or ps v None)) → slice_index_or ps w None ≡ Some p → HasCpu S p.place
timer_at S ps w p each is = subst (HasCpuIfPending S) is (each w)

pub ruleset keeps_timers = (timers-set, timers-none, timer_at)
