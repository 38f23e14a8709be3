-- Engines: a machine with its history.
use Rattle.std.specs.Prelude.{◌≡◌, ℕ, ◌≤◌, List, [], ◌∷◌, ◌++◌, Some, Result, Ok, Err}
use Rattle.cmwq_types.specs.Contents.{ScenarioContents}
use Rattle.cmwq_types.specs.Faults.{IsValid, first_fault}
use Rattle.cmwq_types.specs.declared.instr.Instr.{Instr}
use Rattle.cmwq_types.specs.declared.limits.TheConstants.{MAX_HISTORY}
use Rattle.cmwq_types.specs.declared.reply.Reply.{Reply}
use Rattle.cmwq_table.specs.State.{State, start}
use Rattle.cmwq_table.specs.Table.{run, table}
use Rattle.cmwq_table.specs.declared.machine.LoadError.{LoadError}
use Rattle.cmwq_table.specs.declared.machine.LoadError.TheVariants.{Fault, NoMemory}
use Rattle.cmwq_engine.specs.History.{IsLegal, instrs_of}
use Rattle.cmwq_engine.specs.declared.history.Entry.{Entry}
use Rattle.cmwq_engine.specs.declared.history.Setting.{Setting}

-- What contracts see of an engine.
pub record Contents : Type 0 where
  pub setting : Setting
  -- the machine's
  pub state : State
  pub history : List Entry

-- What holds of every engine, between any two calls.
pub record IsSound (e : Contents) : Type 0 where
  pub valid : IsValid e.setting.scenario
  pub legal : IsLegal e.setting e.history
  -- the machine is what the table gives from the loaded scenario over the history
  pub reached : e.state ≡ run e.setting.scenario (instrs_of e.history)

-- An engine as it lies in memory is sound, and there is room for so many entries.
pub record IsEngine (e : Contents) (room : ℕ) : Type 0 where
  pub small : e.setting.capacity ≤ MAX_HISTORY
  pub sound : IsSound e
  pub has_room : e.setting.capacity ≤ room

abbrev pub contents_of : ScenarioContents → ℕ → State → List Entry → Contents
contents_of scenario capacity state history =
    record { setting = record { scenario = scenario; capacity = capacity }; state = state; history = history }

-- An engine begins in the scenario's start state, with no history.
abbrev pub opening : ScenarioContents → ℕ → Contents
opening scenario capacity = contents_of scenario capacity (start scenario) []

-- the scenario's first fault, or want of memory, where it has none
abbrev pub Refuses : ScenarioContents → LoadError → Type 0
Refuses scenario (Fault fault) = first_fault scenario ≡ Some fault
Refuses scenario NoMemory = IsValid scenario

-- the engine as it begins, or a refusal
abbrev pub Opens : ScenarioContents → ℕ → Result Contents LoadError → Type 0
Opens scenario capacity (Ok engine) = IsValid scenario × (engine ≡ opening scenario capacity)
Opens scenario capacity (Err refused) = Refuses scenario refused

abbrev pub entry : ℕ → ℕ → Instr → Reply → Entry
entry ticket caller instr reply = record { ticket = ticket; caller = caller; instr = instr; reply = reply }

-- the table's reply to an instruction
abbrev pub engine_reply : Contents → Instr → Reply
engine_reply e instr = (table e.setting.scenario e.state instr).1

-- the engine with one entry more: the machine has carried out its instruction
abbrev pub entered : Contents → Entry → Contents
entered e new =
    record e { state = (table e.setting.scenario e.state new.instr).0; history = e.history ++ new ∷ [] }
