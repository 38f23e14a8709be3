-- Each open phase of a run began before the time that it is. So each that ends lasts.
use Rattle.std.proofs.Common.{◌≡◌, ℕ, zero, suc, ◌+◌, ◌<◌, ◌≤◌, Bool, true, false, cond, List, [], ◌∷◌, ◌++◌, length, Option, Some, None, arith, refl}
use Rattle.std.proofs.lemmas.Bool.{ltb-true}
use Rattle.std.specs.Prelude.{nat_lt}
use Rattle.cmwq_types.specs.Contents.{ScenarioContents}
use Rattle.cmwq_types.specs.Setting.{IsSetting}
use Rattle.cmwq_types.specs.declared.instr.Instr.{Instr}
use Rattle.cmwq_types.proofs.SettingLemmas.{IsSetting-valid}
use Rattle.cmwq_table.specs.State.{State, start}
use Rattle.cmwq_table.specs.Table.{table}
use Rattle.cmwq_picture.proofs.TickLemmas.{time-goes_on}
use Rattle.cmwq_slices.specs.Slices.{begun, doing, ended_from, ended_phase, goes_on, no_phases, phase_then, phases_from, slice_to, slices_from, slices_to}
use Rattle.cmwq_slices.specs.declared.doing.Doing.{Doing}
use Rattle.cmwq_slices.specs.declared.doing.Half.{Half}
use Rattle.cmwq_slices.specs.declared.doing.Half.TheVariants as half
use Rattle.cmwq_slices.specs.declared.phases.OpenPhase.{OpenPhase}
use Rattle.cmwq_slices.specs.declared.phases.PhaseSlice.{PhaseSlice}
use Rattle.cmwq_slices.specs.declared.phases.WorkPhases.{WorkPhases}
use Rattle.cmwq_trace_laws.specs.PhaseLaws.{AllLast, LastsATick}

abbrev pub BeganBefore : ℕ → Option OpenPhase → Type 0
BeganBefore time (Some phase) = phase.since < time
BeganBefore time None = Unit {0}

abbrev pub AllBegan : ℕ → List WorkPhases → Type 0
AllBegan time [] = Unit {0}
AllBegan time (phases ∷ more) = BeganBefore time phases.running × BeganBefore time phases.pending × AllBegan time more

began-later : (a b : ℕ) → a ≤ b → (phase : Option OpenPhase) → BeganBefore a phase → BeganBefore b phase
began-later a b h (Some phase) before = omega (arith, h, before)
began-later a b h None before = tt

pub all-later : (a b : ℕ) → a ≤ b → (all : List WorkPhases) → AllBegan a all → AllBegan b all
all-later a b h [] began = tt
all-later a b h (phases ∷ more) began = (began-later a b h phases.running began.0, began-later a b h phases.pending began.1, all-later a b h more began.2)

pub none-began : (time n : ℕ) → AllBegan time (no_phases n)
none-began time zero = tt
none-began time (suc n) = (tt, tt, none-began time n)

last-append : (xs ys : List PhaseSlice) → AllLast xs → AllLast ys → AllLast (xs ++ ys)
last-append [] ys first second = second
last-append (x ∷ xs) ys first second = (first.0, last-append xs ys first.1 second)

-- What ends.

slice-lasts : (time w : ℕ) (half : Half) (phase : Option OpenPhase) → BeganBefore time phase → AllLast (slice_to time w half phase)
slice-lasts time w half (Some phase) before = (before, tt)
slice-lasts time w half None before = tt

phase-lasts : (time w : ℕ) (half : Half) (phase : Option OpenPhase) (now : Option Doing) → BeganBefore time phase → AllLast (ended_phase time w half phase now)
phase-lasts time w half phase now before = chosen (goes_on phase now) where
  chosen : (b : Bool) → AllLast (cond b [] (slice_to time w half phase))
  chosen true = tt
  chosen false = slice-lasts time w half phase before

ended-last : (time : ℕ) (S : ScenarioContents) (s : State) (w : ℕ) (all : List WorkPhases) → AllBegan time all → AllLast (ended_from time S s w all)
ended-last time S s w [] began = tt
ended-last time S s w (phases ∷ more) began =
    let running = ended_phase time w half.Running phases.running (doing S s w half.Running) in
    let pending = ended_phase time w half.Pending phases.pending (doing S s w half.Pending) in
    last-append (running ++ pending) (ended_from time S s (w + 1) more)
    (last-append running pending (phase-lasts time w half.Running phases.running (doing S s w half.Running) began.0) (phase-lasts time w half.Pending phases.pending (doing S s w half.Pending) began.1))
    (ended-last time S s (w + 1) more began.2)

slices-last : (time w : ℕ) (all : List WorkPhases) → AllBegan time all → AllLast (slices_to time w all)
slices-last time w [] began = tt
slices-last time w (phases ∷ more) began =
    let running = slice_to time w half.Running phases.running in
    let pending = slice_to time w half.Pending phases.pending in
    last-append (running ++ pending) (slices_to time (w + 1) more)
    (last-append running pending (slice-lasts time w half.Running phases.running began.0) (slice-lasts time w half.Pending phases.pending began.1))
    (slices-last time (w + 1) more began.2)

-- What goes on, and what begins.

begun-before : (time : ℕ) (now : Option Doing) → BeganBefore (time + 1) (begun time now)
begun-before time (Some now) = omega arith
begun-before time None = tt

then-before : (time : ℕ) (phase : Option OpenPhase) (now : Option Doing) → BeganBefore time phase → BeganBefore (time + 1) (phase_then time phase now)
then-before time phase now before = chosen (goes_on phase now) where
  chosen : (b : Bool) → BeganBefore (time + 1) (cond b phase (begun time now))
  chosen true = began-later time (time + 1) (omega arith) phase before
  chosen false = begun-before time now

pub phases-began : (time : ℕ) (S : ScenarioContents) (s : State) (w : ℕ) (all : List WorkPhases) → AllBegan time all → AllBegan (time + 1) (phases_from time S s w all)
phases-began time S s w [] began = tt
phases-began time S s w (phases ∷ more) began = (
  then-before time phases.running (doing S s w half.Running) began.0,
  then-before time phases.pending (doing S s w half.Pending) began.1,
  phases-began time S s (w + 1) more began.2,
)

-- Along a run.

all-last : (S : ScenarioContents) → IsSetting S → (all : List WorkPhases) (s : State) (instrs : List Instr) → AllBegan s.time all → AllLast (slices_from S all s instrs)
all-last S setting all s [] began = slices-last s.time 0 all began
all-last S setting all s (i ∷ is) began =
    chosen (nat_lt s.time (table S s i).0.time) refl (λ next before. all-last S setting next (table S s i).0 is before) where
      t : State
      t = (table S s i).0

      chosen : (b : Bool) → nat_lt s.time t.time ≡ b → ((next : List WorkPhases) → AllBegan t.time next → AllLast (slices_from S next t is))
          → AllLast (cond b (ended_from s.time S s 0 all) [] ++ slices_from S (cond b (phases_from s.time S s 0 all) all) t is)
      chosen true e rest =
          let later : s.time < t.time = ltb-true s.time t.time e in
          last-append (ended_from s.time S s 0 all) (slices_from S (phases_from s.time S s 0 all) t is) (ended-last s.time S s 0 all began)
          (rest (phases_from s.time S s 0 all) (all-later (s.time + 1) t.time (omega (arith, later)) (phases_from s.time S s 0 all) (phases-began s.time S s 0 all began)))
      chosen false e rest = rest all (all-later s.time t.time (time-goes_on S s i setting) all began)

pub lasts_a_tick : LastsATick
unfolding LastsATick
lasts_a_tick S valid instrs = all-last S (IsSetting-valid S valid) (no_phases (length S.works)) (start S) instrs (none-began 0 (length S.works))
