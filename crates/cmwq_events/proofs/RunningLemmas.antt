-- Which words of the table change no instance that runs, and how many work items may run.
use Rattle.std.proofs.Common.{◌≡◌, ◌⊎◌, inl, inr, ℕ, zero, suc, Bool, true, false, cond, length, Option, Some, None, refl, ap, ◌∙◌}
use Rattle.cmwq_types.specs.Contents.{ScenarioContents}
use Rattle.cmwq_types.specs.Scenario.{flags_at, pool_count, queue_of}
use Rattle.cmwq_types.specs.declared.instr.Instr.{Instr}
use Rattle.cmwq_types.specs.declared.reply.Place.{Place}
use Rattle.cmwq_types.specs.declared.reply.Place.TheVariants.{Timer, Inactive, Listed, Deferred}
use Rattle.cmwq_types.specs.declared.reply.Reply.{Reply}
use Rattle.cmwq_table.specs.declared.state.Pending.{Pending}
use Rattle.cmwq_table.specs.State.{State}
use Rattle.cmwq_table.specs.Counts.{first_inactive, has_room}
use Rattle.cmwq_table.specs.Moves.{enlist, fill, fill_everywhere, fill_freezable, fill_from, fill_one, fill_pools, fill_times, fired, fired_to, place_after, taken_off, with_pending}
use Rattle.cmwq_table.specs.Table.{table}
use Rattle.cmwq_table.proofs.Frames.{Frame, IsRefused, table-frame}

-- Filling, placing and taking off change no instance that runs.

enlist-runs : (s : State) (pool : ℕ) (found : Option ℕ) → (enlist s pool found).running ≡ s.running
enlist-runs s pool (Some w) = refl
enlist-runs s pool None = refl

module _ (S : ScenarioContents) where
  pub fill_times-runs : (queue pool n : ℕ) (s : State) → (fill_times S queue pool n s).running ≡ s.running
  fill_times-runs queue pool zero s = refl
  fill_times-runs queue pool (suc n) s =
      fill_times-runs queue pool n (fill_one S queue pool s) ∙ enlist-runs s pool (cond (has_room S s queue pool) (first_inactive S s queue pool) None)

  pub fill-runs : (queue pool : ℕ) (s : State) → (fill S queue pool s).running ≡ s.running
  fill-runs queue pool s = fill_times-runs queue pool (length S.works) s

  pub fill_pools-runs : (queue n : ℕ) (s : State) → (fill_pools S queue n s).running ≡ s.running
  fill_pools-runs queue zero s = refl
  fill_pools-runs queue (suc n) s = fill-runs queue n (fill_pools S queue n s) ∙ fill_pools-runs queue n s

  pub fill_freezable-runs : (n : ℕ) (s : State) → (fill_freezable S n s).running ≡ s.running
  fill_freezable-runs zero s = refl
  fill_freezable-runs (suc n) s = chosen (fill_freezable-runs n s) (flags_at S n).freezable where
    chosen : (fill_freezable S n s).running ≡ s.running → (b : Bool) → (cond b (fill_everywhere S n (fill_freezable S n s)) (fill_freezable S n s)).running ≡ s.running
    chosen before true = fill_pools-runs n (pool_count S) (fill_freezable S n s) ∙ before
    chosen before false = before

  fill_from-runs : (queue : ℕ) (place : Place) (s : State) → (fill_from S queue place s).running ≡ s.running
  fill_from-runs queue (Timer due cpu) s = refl
  fill_from-runs queue (Inactive pool) s = fill-runs queue pool s
  fill_from-runs queue (Listed pool) s = fill-runs queue pool s
  fill_from-runs queue (Deferred pool) s = fill-runs queue pool s

  pub taken_off-runs : (s : State) (w : ℕ) (p : Option Pending) → (taken_off S s w p).running ≡ s.running
  taken_off-runs s w (Some p) = fill_from-runs (queue_of S w) p.place (with_pending s w None)
  taken_off-runs s w None = refl

  pub place_after-runs : (s : State) (w cpu ticks : ℕ) → (place_after S s w cpu ticks).running ≡ s.running
  place_after-runs s w cpu zero = refl
  place_after-runs s w cpu (suc ticks) = refl

  pub fired-runs : (s : State) (w : ℕ) (p : Option Pending) → (fired S s w p).running ≡ s.running
  fired-runs s w (Some p) = at p.place where
    at : (place : Place) → (fired_to S s w place).running ≡ s.running
    at (Timer due cpu) = refl
    at (Inactive pool) = refl
    at (Listed pool) = refl
    at (Deferred pool) = refl
  fired-runs s w None = refl

-- As many work items may run after an instruction as before.

framed-length : (S : ScenarioContents) (s t : State) (i : Instr) (r : Reply) → (Frame S s i t) ⊎ (IsRefused s t r) → length t.running ≡ length s.running
framed-length S s t i r (inl frame) = frame.long.running
framed-length S s t i r (inr refused) = ap (λ (u : State). length u.running) refused.same

pub running-length : (S : ScenarioContents) (s : State) (i : Instr) → length (table S s i).0.running ≡ length s.running
running-length S s i = framed-length S s (table S s i).0 i (table S s i).1 (table-frame S s i)
