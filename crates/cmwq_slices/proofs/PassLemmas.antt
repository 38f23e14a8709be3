-- A loop that lets a tick pass, work by work.
use Rattle.std.proofs.Common.{◌≡◌, ℕ, suc, ◌+◌, ◌<◌, List, [], ◌∷◌, ◌++◌, length, take, drop, Option, arith, refl, sym, ap, ◌∙◌, append_assoc}
use Rattle.std.proofs.Math.Seq.{drop-cons, take-suc-set}
use Rattle.std.proofs.lemmas.List.{drop-set-lt}
use Rattle.std.specs.Prelude.{slice_index_or, slice_set}
use Rattle.cmwq_types.specs.Contents.{ScenarioContents}
use Rattle.cmwq_table.specs.State.{State}
use Rattle.cmwq_slices.specs.Slices.{doing, ended_from, ended_phase, phase_then, phases_from, work_ended, work_then}
use Rattle.cmwq_slices.specs.declared.doing.Doing.{Doing}
use Rattle.cmwq_slices.specs.declared.doing.Half.TheVariants as half
use Rattle.cmwq_slices.specs.declared.phases.PhaseSlice.{PhaseSlice}
use Rattle.cmwq_slices.specs.declared.phases.WorkPhases.{WorkPhases}

module _ (time : ℕ) (S : ScenarioContents) (s : State) (w : ℕ) where
  pub then-done : (one : WorkPhases) (x : WorkPhases) (run pend : Option Doing) → run ≡ doing S s w half.Running → pend ≡ doing S s w half.Pending
      → x ≡ record { running = phase_then time one.running run; pending = phase_then time one.pending pend } → x ≡ work_then time S s w one
  then-done one x run pend runs pends is = rw (is, runs, pends) refl

  pub ended-done : (one : WorkPhases) (old new : List PhaseSlice) (run pend : Option Doing) → run ≡ doing S s w half.Running → pend ≡ doing S s w half.Pending
      → new ≡ old ++ (ended_phase time w half.Running one.running run ++ ended_phase time w half.Pending one.pending pend) → new ≡ old ++ work_ended time S s w one
  ended-done one old new run pend runs pends is = rw (is, runs, pends) refl

  module _ (all : List WorkPhases) (d : WorkPhases) (there : w < length all) where
    next : w + 1 ≡ suc w
    next = omega arith

    drop-here : drop w all ≡ slice_index_or all w d ∷ drop (w + 1) all
    drop-here = drop-cons all w d there ∙ ap (λ (n : ℕ). slice_index_or all w d ∷ drop n all) (sym next)

    pub phases-step : (x : WorkPhases) → x ≡ work_then time S s w (slice_index_or all w d)
        → take (w + 1) (slice_set all w x) ++ phases_from time S s (w + 1) (drop (w + 1) (slice_set all w x)) ≡ take w all ++ phases_from time S s w (drop w all)
    phases-step x is =
        ap (λ (front : List WorkPhases). front ++ phases_from time S s (w + 1) (drop (w + 1) (slice_set all w x)))
        (ap (λ (n : ℕ). take n (slice_set all w x)) next ∙ take-suc-set all w x there)
        ∙ ap (λ (rest : List WorkPhases). (take w all ++ x ∷ []) ++ phases_from time S s (w + 1) rest) (drop-set-lt (w + 1) all w x (omega arith))
        ∙ append_assoc (take w all) (x ∷ []) (phases_from time S s (w + 1) (drop (w + 1) all))
        ∙ ap (λ (one : WorkPhases). take w all ++ (one ∷ phases_from time S s (w + 1) (drop (w + 1) all))) is
        ∙ ap (λ (rest : List WorkPhases). take w all ++ phases_from time S s w rest) (sym drop-here)

    pub ended-step : (x : WorkPhases) (old new : List PhaseSlice) → new ≡ old ++ work_ended time S s w (slice_index_or all w d)
        → new ++ ended_from time S s (w + 1) (drop (w + 1) (slice_set all w x)) ≡ old ++ ended_from time S s w (drop w all)
    ended-step x old new is =
        ap (λ (front : List PhaseSlice). front ++ ended_from time S s (w + 1) (drop (w + 1) (slice_set all w x))) is
        ∙ ap (λ (rest : List WorkPhases). (old ++ work_ended time S s w (slice_index_or all w d)) ++ ended_from time S s (w + 1) rest) (drop-set-lt (w + 1) all w x (omega arith))
        ∙ append_assoc old (work_ended time S s w (slice_index_or all w d)) (ended_from time S s (w + 1) (drop (w + 1) all))
        ∙ ap (λ (rest : List WorkPhases). old ++ ended_from time S s w rest) (sym drop-here)

-- a tick keeps the number of works
pub phases-length : (time : ℕ) (S : ScenarioContents) (s : State) (w : ℕ) (all : List WorkPhases) → length (phases_from time S s w all) ≡ length all
phases-length time S s w [] = refl
phases-length time S s w (one ∷ more) = ap suc (phases-length time S s (w + 1) more)
