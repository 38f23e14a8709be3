-- Several actors on one history: who has issued what.
use Rattle.std.specs.Prelude.{◌≡◌, ℕ, ◌<◌, List, [], All, length, map, take, slice_index_or}
use Rattle.cmwq_types.specs.Contents.{ActorContents, ScenarioContents}
use Rattle.cmwq_types.specs.Scenario.{expand}
use Rattle.cmwq_types.specs.declared.instr.Instr.{Instr}
use Rattle.cmwq_lock.specs.Log.{calls_of}
use Rattle.cmwq_engine.specs.History.{instrs_of}
use Rattle.cmwq_engine.specs.declared.history.Entry.{Entry}

-- what each of these actors has to issue: its lines, each as often as it stands
abbrev pub scripts_in : List ActorContents → List (List Instr)
scripts_in actors = map expand actors

abbrev pub scripts_of : ScenarioContents → List (List Instr)
scripts_of S = scripts_in S.actors

-- the script of one actor
abbrev pub script_at : List (List Instr) → ℕ → List Instr
script_at scripts actor = slice_index_or scripts actor []

-- the instructions of one caller's entries, in order
abbrev pub issued_by : ℕ → List Entry → List Instr
issued_by caller history = instrs_of (calls_of (λ (e : Entry). e.caller) caller history)

-- no entry is of another caller than these many actors
abbrev pub HasNoOthers : ℕ → List Entry → Type 0
HasNoOthers count history = All (λ (e : Entry). e.caller < count) history

-- the list is a front of the whole
abbrev pub IsFrontOf : {A : Type 0} → List A → List A → Type 0
IsFrontOf front whole = front ≡ take (length front) whole

-- the history interleaves the scripts: the entries of each actor have its script, in order, and there are no others
pub record Interleaves (scripts : List (List Instr)) (history : List Entry) : Type 0 where
  pub each : (actor : ℕ) → actor < length scripts → issued_by actor history ≡ script_at scripts actor
  pub no_others : HasNoOthers (length scripts) history

-- the history interleaves fronts of the scripts
pub record InterleavesFronts (scripts : List (List Instr)) (history : List Entry) : Type 0 where
  pub each : (actor : ℕ) → actor < length scripts → IsFrontOf (issued_by actor history) (script_at scripts actor)
  pub no_others : HasNoOthers (length scripts) history
