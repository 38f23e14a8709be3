-- The phases of a run. A phase is a longest stretch of ticks in which one instance of a work does the same.
use Rattle.std.specs.Prelude.{◌≡◌, ℕ, ◌+◌, Bool, true, false, List, [], ◌∷◌, ◌++◌, length, Option, Some, None, if◌then◌else◌, nat_lt, replicate}
use Rattle.cmwq_types.specs.Contents.{ScenarioContents}
use Rattle.cmwq_types.specs.declared.instr.Instr.{Instr}
use Rattle.cmwq_table.specs.State.{State, pending_at, running_at, start}
use Rattle.cmwq_table.specs.Table.{table}
use Rattle.cmwq_table.specs.declared.state.Pending.{Pending}
use Rattle.cmwq_table.specs.declared.state.Running.{Running}
use Rattle.cmwq_picture.specs.Picture.{place_sign, run_sign}
use Rattle.cmwq_slices.specs.declared.doing.Doing.{Doing}
use Rattle.cmwq_slices.specs.declared.doing.Half.{Half}
use Rattle.cmwq_slices.specs.declared.doing.Half.TheVariants as half
use Rattle.cmwq_slices.specs.declared.phases.OpenPhase.{OpenPhase}
use Rattle.cmwq_slices.specs.declared.phases.PhaseSlice.{PhaseSlice}
use Rattle.cmwq_slices.specs.declared.phases.WorkPhases.{WorkPhases}
use Rattle.cmwq_slices.specs.contracts.doing.DoingPartialEq.TheImpl as doing_equality

-- What the instances of a work do in a tick that passes in this state, where they are there.

abbrev pub run_doing : ScenarioContents → State → ℕ → Option Running → Option Doing
run_doing S s w (Some r) = Some (record { born = r.born; sign = run_sign S s w r })
run_doing S s w None = None

abbrev pub pending_doing : Option Pending → Option Doing
pending_doing (Some p) = Some (record { born = p.born; sign = place_sign p.place })
pending_doing None = None

abbrev pub doing : ScenarioContents → State → ℕ → Half → Option Doing
doing S s w half.Running = run_doing S s w (running_at s w)
doing S s w half.Pending = pending_doing (pending_at s w)

-- Phases that go on, and phases that end.

-- the same instance does the same
abbrev pub goes_on : Option OpenPhase → Option Doing → Bool
goes_on (Some phase) (Some now) = doing_equality.ghosts.eq phase.doing now
goes_on (Some phase) None = false
goes_on None now = false

-- a phase that begins at this time, where something is done
abbrev pub begun : ℕ → Option Doing → Option OpenPhase
begun time (Some now) = Some (record { doing = now; since = time })
begun time None = None

-- the phase once this is done in a tick at this time: the one that there was goes on, or another one begins
abbrev pub phase_then : ℕ → Option OpenPhase → Option Doing → Option OpenPhase
phase_then time phase now = if goes_on phase now then phase else begun time now

-- what a phase comes to that ends at this time
abbrev pub slice_to : ℕ → ℕ → Half → Option OpenPhase → List PhaseSlice
slice_to time w half (Some phase) =
    record { work = record { 0 = w }; half = half; sign = phase.doing.sign; since = phase.since; until = time } ∷ []
slice_to time w half None = []

-- what ends at this time because something else is done, or nothing
abbrev pub ended_phase : ℕ → ℕ → Half → Option OpenPhase → Option Doing → List PhaseSlice
ended_phase time w half phase now = if goes_on phase now then [] else slice_to time w half phase

-- Of a work, and of all works from a number on.

abbrev pub work_then : ℕ → ScenarioContents → State → ℕ → WorkPhases → WorkPhases
work_then time S s w phases =
    record {
      running = phase_then time phases.running (doing S s w half.Running);
      pending = phase_then time phases.pending (doing S s w half.Pending);
    }

abbrev pub work_ended : ℕ → ScenarioContents → State → ℕ → WorkPhases → List PhaseSlice
work_ended time S s w phases =
    ended_phase time w half.Running phases.running (doing S s w half.Running)
    ++ ended_phase time w half.Pending phases.pending (doing S s w half.Pending)

abbrev pub work_slices : ℕ → ℕ → WorkPhases → List PhaseSlice
work_slices time w phases = slice_to time w half.Running phases.running ++ slice_to time w half.Pending phases.pending

-- the open phases of the works once the tick at this time passes, in which they do what they do in this state
abbrev pub phases_from : ℕ → ScenarioContents → State → ℕ → List WorkPhases → List WorkPhases
phases_from time S s w [] = []
phases_from time S s w (phases ∷ more) = work_then time S s w phases ∷ phases_from time S s (w + 1) more

-- the phases that have ended as that tick passes: in it something else is done
abbrev pub ended_from : ℕ → ScenarioContents → State → ℕ → List WorkPhases → List PhaseSlice
ended_from time S s w [] = []
ended_from time S s w (phases ∷ more) = work_ended time S s w phases ++ ended_from time S s (w + 1) more

-- all that are open, at the end of a run at this time
abbrev pub slices_to : ℕ → ℕ → List WorkPhases → List PhaseSlice
slices_to time w [] = []
slices_to time w (phases ∷ more) = work_slices time w phases ++ slices_to time (w + 1) more

-- Along a run.

abbrev pub no_phases : ℕ → List WorkPhases
no_phases works = replicate works (record { running = None; pending = None })

-- what is done in a phase, if one is open
abbrev pub phase_doing : Option OpenPhase → Option Doing
phase_doing (Some phase) = Some phase.doing
phase_doing None = None

-- in the phases of the works from a number on is done just what the instances of these works do in this state
abbrev pub AreDone : ScenarioContents → State → ℕ → List WorkPhases → Type 0
AreDone S s w [] = Unit {0}
AreDone S s w (phases ∷ more) =
    (phase_doing phases.running ≡ doing S s w half.Running) × (phase_doing phases.pending ≡ doing S s w half.Pending)
    × AreDone S s (w + 1) more

-- an instruction leads from the one state to the other
abbrev pub LeadsTo : ScenarioContents → State → State → Type 0
LeadsTo S s t = (i : Instr) × (t ≡ (table S s i).0)

-- so it is, the state before is of this time, and if these phases are steady, they are what is done in it
pub record Follows (S : ScenarioContents) (s : State) (time : ℕ) (is_steady : Bool) (phases : List WorkPhases) (t : State) : Type 0 where
  pub leads : LeadsTo S s t
  pub at : time ≡ s.time
  pub steady : is_steady ≡ true → AreDone S s 0 phases

-- what is open once an instruction was carried out that leads from a state to a time
abbrev pub phases_after : ScenarioContents → State → ℕ → List WorkPhases → List WorkPhases
phases_after S s time phases = if nat_lt s.time time then phases_from s.time S s 0 phases else phases

-- and what ended at it
abbrev pub phases_ended : ScenarioContents → State → ℕ → List WorkPhases → List PhaseSlice
phases_ended S s time phases = if nat_lt s.time time then ended_from s.time S s 0 phases else []

-- the slices of a run from a state on, in which these phases are open
abbrev pub slices_from : ScenarioContents → List WorkPhases → State → List Instr → List PhaseSlice
slices_from S phases s [] = slices_to s.time 0 phases
slices_from S phases s (i ∷ is) =
    phases_ended S s (table S s i).0.time phases ++ slices_from S (phases_after S s (table S s i).0.time phases) (table S s i).0 is

-- the slices of a run
abbrev pub slices : ScenarioContents → List Instr → List PhaseSlice
slices S instrs = slices_from S (no_phases (length S.works)) (start S) instrs
