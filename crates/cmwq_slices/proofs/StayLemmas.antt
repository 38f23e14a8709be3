-- A loop that lets a tick pass, at a work whose phases are what its instances do.
use Rattle.std.proofs.Common.{◌≡◌, ℕ, ◌+◌, ◌<◌, List, [], ◌++◌, length, take, drop, Option, sym, ap, ◌∙◌, subst, append-nil}
use Rattle.std.proofs.lemmas.List.{set-get_or}
use Rattle.std.specs.Prelude.{slice_index_or}
use Rattle.cmwq_types.specs.Contents.{ScenarioContents}
use Rattle.cmwq_table.specs.State.{State}
use Rattle.cmwq_slices.specs.Slices.{doing, ended_from, ended_phase, phase_doing, phase_then, phases_from, work_ended, work_then}
use Rattle.cmwq_slices.specs.declared.doing.Half.TheVariants as half
use Rattle.cmwq_slices.specs.declared.phases.OpenPhase.{OpenPhase}
use Rattle.cmwq_slices.specs.declared.phases.PhaseSlice.{PhaseSlice}
use Rattle.cmwq_slices.specs.declared.phases.WorkPhases.{WorkPhases}
use Rattle.cmwq_slices.proofs.PassLemmas.{ended-step, phases-step}
use Rattle.cmwq_slices.proofs.SteadyLemmas.{none-ended, then-stays}

module _ (time : ℕ) (S : ScenarioContents) (s : State) (w : ℕ) where
  module _ (one : WorkPhases) (running : phase_doing one.running ≡ doing S s w half.Running) (pending : phase_doing one.pending ≡ doing S s w half.Pending) where
    work-stays : work_then time S s w one ≡ one
    work-stays =
        ap (λ (r : Option OpenPhase). record { running = r; pending = phase_then time one.pending (doing S s w half.Pending) }) (then-stays time one.running (doing S s w half.Running) running)
        ∙ ap (λ (p : Option OpenPhase). record { running = one.running; pending = p }) (then-stays time one.pending (doing S s w half.Pending) pending)

    none-ends : work_ended time S s w one ≡ []
    none-ends =
        ap (λ (xs : List PhaseSlice). xs ++ ended_phase time w half.Pending one.pending (doing S s w half.Pending)) (none-ended time w half.Running one.running (doing S s w half.Running) running)
        ∙ none-ended time w half.Pending one.pending (doing S s w half.Pending) pending

  module _ (all : List WorkPhases) (d : WorkPhases) (there : w < length all) (running : phase_doing (slice_index_or all w d).running ≡ doing S s w half.Running)
      (pending : phase_doing (slice_index_or all w d).pending ≡ doing S s w half.Pending) where
    abbrev one : WorkPhases
    one = slice_index_or all w d

    pub stays-step : take (w + 1) all ++ phases_from time S s (w + 1) (drop (w + 1) all) ≡ take w all ++ phases_from time S s w (drop w all)
    stays-step =
        subst (λ (xs : List WorkPhases). take (w + 1) xs ++ phases_from time S s (w + 1) (drop (w + 1) xs) ≡ take w all ++ phases_from time S s w (drop w all)) (set-get_or all w d)
        (phases-step time S s w all d there one (sym (work-stays one running pending)))

    pub stays-ended : (old : List PhaseSlice) → old ++ ended_from time S s (w + 1) (drop (w + 1) all) ≡ old ++ ended_from time S s w (drop w all)
    stays-ended old =
        subst (λ (xs : List WorkPhases). old ++ ended_from time S s (w + 1) (drop (w + 1) xs) ≡ old ++ ended_from time S s w (drop w all)) (set-get_or all w d)
        (ended-step time S s w all d there one old old (sym (ap (λ (xs : List PhaseSlice). old ++ xs) (none-ends one running pending) ∙ append-nil old)))
