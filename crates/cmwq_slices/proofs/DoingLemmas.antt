-- A tick changes nothing of what the instances of works do.
use Rattle.std.proofs.Common.{◌≡◌, ℕ, zero, suc, ◌+◌, ◌-◌, ◌<◌, ◌≤◌, Bool, true, false, cond, List, [], ◌∷◌, ◌++◌, length, Option, Some, None, arith, refl, sym, ap, ◌∙◌, subst}
use Rattle.std.proofs.lemmas.Bool.{lt-ltb}
use Rattle.std.proofs.lemmas.List.FromFn.{get_or-map-range_with_len}
use Rattle.std.specs.Prelude.{nat_lt, slice_index_or}
use Rattle.cmwq_types.specs.Contents.{ScenarioContents}
use Rattle.cmwq_types.specs.Setting.{IsSetting}
use Rattle.cmwq_table.specs.Counts.{burns}
use Rattle.cmwq_table.specs.Moves.{burned, one_less}
use Rattle.cmwq_table.specs.State.{State, running_at}
use Rattle.cmwq_table.specs.declared.state.Running.{Running}
use Rattle.cmwq_picture.specs.Column.{ColumnContents}
use Rattle.cmwq_picture.specs.Picture.{deeds_of, run_or_pending, run_sign, work_sign}
use Rattle.cmwq_picture.specs.declared.cell.Cell.TheVariants.{Does, Empty}
use Rattle.cmwq_picture.specs.declared.cell.Sign.{Sign}
use Rattle.cmwq_picture.proofs.AlikeLemmas.{column-ticks}
use Rattle.cmwq_picture.proofs.TickLemmas.{IsTick, time-ticks}
use Rattle.cmwq_slices.specs.Slices.{LeadsTo, doing, ended_from, phases_after, phases_ended, phases_from, run_doing, work_ended, work_then}
use Rattle.cmwq_slices.specs.declared.doing.Half.{Half}
use Rattle.cmwq_slices.specs.declared.doing.Half.TheVariants as half
use Rattle.cmwq_slices.specs.declared.phases.PhaseSlice.{PhaseSlice}
use Rattle.cmwq_slices.specs.declared.phases.WorkPhases.{WorkPhases}

-- of each work that runs a tick takes away what it has left to burn, or nothing
burned-at : (f : ℕ → Option Running → Bool) (k : ℕ) (rs : List (Option Running)) (w : ℕ)
    → (b : Bool) × (slice_index_or (burned f k rs) w None ≡ cond b (one_less (slice_index_or rs w None)) (slice_index_or rs w None))
burned-at f k [] w = (false, refl)
burned-at f k (r ∷ rs) zero = (f k r, refl)
burned-at f k (r ∷ rs) (suc w) = burned-at f (k + 1) rs w

does-same : (a b : Sign) → Does a ≡ Does b → a ≡ b
does-same a b e = cc

run-same : (S : ScenarioContents) (s t : State) (w : ℕ) (r : Option Running) (b : Bool)
    → run_or_pending S t w (cond b (one_less r) r) ≡ run_or_pending S s w r → run_doing S t w (cond b (one_less r) r) ≡ run_doing S s w r
run-same S s t w (Some r) true e = ap (λ (sign : Sign). Some (record { born = r.born; sign = sign })) (does-same (run_sign S t w (record r { left = r.left - 1 })) (run_sign S s w r) e)
run-same S s t w (Some r) false e = ap (λ (sign : Sign). Some (record { born = r.born; sign = sign })) (does-same (run_sign S t w r) (run_sign S s w r) e)
run-same S s t w None true e = refl
run-same S s t w None false e = refl

module _ (S : ScenarioContents) (s t : State) (ticked : IsTick S s t) where
  work-same : (w : ℕ) → w < length S.works → work_sign S t w ≡ work_sign S s w
  work-same w there =
      sym (get_or-map-range_with_len (work_sign S t) 0 (length S.works) w w Empty there (omega arith))
      ∙ ap (λ (c : ColumnContents). slice_index_or c.works w Empty) (column-ticks S s t (deeds_of false []) ticked)
      ∙ get_or-map-range_with_len (work_sign S s) 0 (length S.works) w w Empty there (omega arith)

  pub doing-same : (w : ℕ) → w < length S.works → (half : Half) → doing S t w half ≡ doing S s w half
  doing-same w there half.Running =
      let b = burned-at (burns S s) 0 s.running w in
      let runs : running_at t w ≡ cond b.0 (one_less (running_at s w)) (running_at s w) = ap (λ (u : State). running_at u w) ticked.1 ∙ b.1 in
      let same = subst (λ (r : Option Running). run_or_pending S t w r ≡ run_or_pending S s w (running_at s w)) runs (work-same w there) in
      ap (λ (r : Option Running). run_doing S t w r) runs ∙ run-same S s t w (running_at s w) b.0 same
  doing-same w there half.Pending = ap (λ (u : State). doing S u w half.Pending) ticked.1

  then-same : (time w : ℕ) (phases : WorkPhases) → w < length S.works → work_then time S t w phases ≡ work_then time S s w phases
  then-same time w phases there = rw (doing-same w there half.Running, doing-same w there half.Pending) refl

  ended-same : (time w : ℕ) (phases : WorkPhases) → w < length S.works → work_ended time S t w phases ≡ work_ended time S s w phases
  ended-same time w phases there = rw (doing-same w there half.Running, doing-same w there half.Pending) refl

  all-then : (time w : ℕ) (all : List WorkPhases) → w + length all ≤ length S.works → phases_from time S t w all ≡ phases_from time S s w all
  all-then time w [] few = refl
  all-then time w (phases ∷ more) few =
      ap (λ (one : WorkPhases). one ∷ phases_from time S t (w + 1) more) (then-same time w phases (omega (arith, few)))
      ∙ ap (λ (others : List WorkPhases). work_then time S s w phases ∷ others) (all-then time (w + 1) more (omega (arith, few)))

  all-ended : (time w : ℕ) (all : List WorkPhases) → w + length all ≤ length S.works → ended_from time S t w all ≡ ended_from time S s w all
  all-ended time w [] few = refl
  all-ended time w (phases ∷ more) few =
      ap (λ (some : List PhaseSlice). some ++ ended_from time S t (w + 1) more) (ended-same time w phases (omega (arith, few)))
      ∙ ap (λ (others : List PhaseSlice). work_ended time S s w phases ++ others) (all-ended time (w + 1) more (omega (arith, few)))

-- Of an instruction.

pub is-tick : (S : ScenarioContents) (s t : State) → IsSetting S → LeadsTo S s t → s.time < t.time → IsTick S s t
is-tick S s t setting leads later =
    subst (λ (u : State). IsTick S s u) (sym leads.1) (time-ticks S s leads.0 setting (subst (λ (u : State). s.time < u.time) leads.1 later))

module _ (S : ScenarioContents) (s t : State) (setting : IsSetting S) (leads : LeadsTo S s t) (all : List WorkPhases) where
  pub passed-phases : length all ≤ length S.works → s.time < t.time → phases_from s.time S t 0 all ≡ phases_after S s t.time all
  passed-phases few later =
      all-then S s t (is-tick S s t setting leads later) s.time 0 all (omega (arith, few))
      ∙ sym (ap (λ (b : Bool). cond b (phases_from s.time S s 0 all) all) (lt-ltb s.time t.time later))

  pub passed-ended : length all ≤ length S.works → s.time < t.time → ended_from s.time S t 0 all ≡ phases_ended S s t.time all
  passed-ended few later =
      all-ended S s t (is-tick S s t setting leads later) s.time 0 all (omega (arith, few))
      ∙ sym (ap (λ (b : Bool). cond b (ended_from s.time S s 0 all) []) (lt-ltb s.time t.time later))

-- no tick has passed
pub stayed-phases : (S : ScenarioContents) (s : State) (time : ℕ) (all : List WorkPhases) → nat_lt s.time time ≡ false → all ≡ phases_after S s time all
stayed-phases S s time all stays = sym (ap (λ (b : Bool). cond b (phases_from s.time S s 0 all) all) stays)

pub stayed-ended : (S : ScenarioContents) (s : State) (time : ℕ) (all : List WorkPhases) → nat_lt s.time time ≡ false → [] ≡ phases_ended S s time all
stayed-ended S s time all stays = sym (ap (λ (b : Bool). cond {A = List PhaseSlice} b (ended_from s.time S s 0 all) []) stays)
