-- What a debugger says: a fold over its commands, of a position and breaks. Each answer is read off the table's
-- run over the first instructions of the list.
use Rattle.std.specs.Prelude.{◌≡◌, ◌⊎◌, ℕ, zero, suc, ◌+◌, ◌-◌, Bool, not, ◌&&◌, List, [], ◌∷◌, length, replicate, take, Option, Some, None, Result, Ok, Err, if◌then◌else◌, is_some, nat_le, nat_lt, slice_index_or, slice_set}
use Rattle.cmwq_types.specs.Contents.{ScenarioContents}
use Rattle.cmwq_types.specs.Faults.{first_fault, IsValid}
use Rattle.cmwq_types.specs.Scenario.{pool_count}
use Rattle.cmwq_types.specs.declared.instr.Instr.{Instr}
use Rattle.cmwq_types.specs.declared.instr.WorkId.{WorkId}
use Rattle.cmwq_types.specs.declared.instr.Instr.TheVariants.{Next}
use Rattle.cmwq_types.specs.declared.reply.Reply.{Reply}
use Rattle.cmwq_table.specs.Events.{is_silent}
use Rattle.cmwq_table.specs.State.{State}
use Rattle.cmwq_table.specs.Table.{run, table}
use Rattle.cmwq_table.specs.declared.machine.LoadError.{LoadError}
use Rattle.cmwq_table.specs.declared.machine.LoadError.TheVariants as load
use Rattle.cmwq_dump.specs.Dump.{dump, pool_lines}
use Rattle.cmwq_why_text.specs.WhyText.{why_line}
use Rattle.cmwq_flush_waits.specs.FlushText.{flush_lines}
use Rattle.cmwq_debug.specs.BreakLines.{list_text}
use Rattle.cmwq_debug.specs.Breaks.{break_at, free, lowest, said_of}
use Rattle.cmwq_debug.specs.declared.breaks.TheConstants.{MAX_BREAKS}
use Rattle.cmwq_debug.specs.declared.breaks.Break.{Break}
use Rattle.cmwq_debug.specs.declared.breaks.Break.TheVariants.{OnWork, OnTime, OnRefusal, OnActivation}
use Rattle.cmwq_debug.specs.declared.command.Command.{Command}
use Rattle.cmwq_debug.specs.declared.command.Command.TheVariants as command
use Rattle.cmwq_debug.specs.declared.command.DebugError.{DebugError}
use Rattle.cmwq_debug.specs.declared.command.DebugError.TheVariants as error
use Rattle.cmwq_debug.specs.declared.command.Said.{Said}
use Rattle.cmwq_debug.specs.declared.command.Said.TheVariants as said

-- A debugger: a scenario, a list of instructions, how many of them were carried out, and the places for breaks.
pub record Session : Type 0 where
  pub scenario : ScenarioContents
  pub instrs : List Instr
  pub position : ℕ
  pub breaks : List (Option Break)

abbrev pub session_of : ScenarioContents → List Instr → ℕ → List (Option Break) → Session
session_of S instrs position breaks = record { scenario = S; instrs = instrs; position = position; breaks = breaks }

-- a debugger that was just opened
abbrev pub opened : ScenarioContents → List Instr → Session
opened S instrs = session_of S instrs 0 (replicate MAX_BREAKS None)

-- the state after the first k instructions
abbrev pub state_at : Session → ℕ → State
state_at d k = run d.scenario (take k d.instrs)

abbrev pub time_at : Session → ℕ → ℕ
time_at d k = (state_at d k).time

-- the instruction behind the first k
abbrev pub instr_at_position : Session → ℕ → Instr
instr_at_position d k = slice_index_or d.instrs k Next

-- the table's reply to it
abbrev pub reply_at : Session → ℕ → Reply
reply_at d k = (table d.scenario (state_at d k) (instr_at_position d k)).1

-- The instruction that was carried out last, where so many of the list were, and the table's reply to it; none at the start.
abbrev pub last_carried : ScenarioContents → List Instr → ℕ → Option (Instr × Reply)
last_carried S instrs zero = None
last_carried S instrs (suc k) =
    Some (slice_index_or instrs k Next, (table S (run S (take k instrs)) (slice_index_or instrs k Next)).1)

abbrev pub last_of : Session → Option (Instr × Reply)
last_of d = last_carried d.scenario d.instrs d.position

-- The first instruction from a position on for which `run` prints a line.

-- the table's reply to the instruction behind the first k of a list
abbrev pub reply_behind : ScenarioContents → List Instr → ℕ → Reply
reply_behind S instrs k = (table S (run S (take k instrs)) (slice_index_or instrs k Next)).1

abbrev pub is_event : ScenarioContents → List Instr → ℕ → ℕ → Bool
is_event S instrs from k = nat_le from k && not (is_silent (reply_behind S instrs k))

abbrev pub next_event : ScenarioContents → List Instr → ℕ → Option ℕ
next_event S instrs from = lowest (is_event S instrs from) (length instrs)

-- the position behind that instruction, else the end
abbrev pub event_end : List Instr → Option ℕ → ℕ
event_end instrs (Some k) = k + 1
event_end instrs None = length instrs

-- the break that is said of it
abbrev pub break_of : Session → ℕ → Option ℕ
break_of d k = said_of d.breaks (state_at d k) (state_at d (k + 1)) (reply_at d k)

-- What is said to a command.
pub data Answer : Type 0 where
  -- the position, the time there, and the break that stopped a run
  At : (position now : ℕ) (by : Option ℕ) → Answer
  -- the new break's number
  Broke : ℕ → Answer
  -- the number of the break that was removed
  Cleared : ℕ → Answer
  Text : (text : List ℕ) → Answer

-- where a debugger stands after a command, and what is said to it
abbrev pub Outcome : Type 0
Outcome = Session × Result Answer DebugError

abbrev pub refuses : Session → DebugError → Outcome
refuses d why = (d, Err why)

abbrev pub says : Session → Answer → Outcome
says d answer = (d, Ok answer)

-- the debugger stands at this position
abbrev pub stands : Session → ℕ → Option ℕ → Outcome
stands d k by = says (record d { position = k }) (At k (time_at d k) by)

-- a position that the list has
abbrev pub goes : Session → ℕ → Outcome
goes d k = if nat_le k (length d.instrs) then stands d k None else refuses d error.PastEnd

-- back by at most the position
abbrev pub goes_back : Session → ℕ → Outcome
goes_back d n = if nat_le n d.position then goes d (d.position - n) else refuses d error.PastStart

-- a new break takes the lowest free place
abbrev pub put : Session → Break → Option ℕ → Outcome
put d break (Some i) = says (record d { breaks = slice_set d.breaks i (Some break) }) (Broke i)
put d break None = refuses d error.TooManyBreaks

abbrev pub breaks_on : Session → Break → Outcome
breaks_on d break = put d break (free d.breaks)

-- the same for a break on a work, if there is such a work
abbrev pub breaks_on_work : Session → WorkId → Break → Outcome
breaks_on_work d work break =
    if nat_lt work.0 (length d.scenario.works) then breaks_on d break else refuses d error.NoSuchWork

abbrev pub removed : Session → ℕ → Option Break → Outcome
removed d i (Some break) = says (record d { breaks = slice_set d.breaks i None }) (Cleared i)
removed d i None = refuses d error.NoSuchBreak

-- the first instruction from here on of which a break is said
abbrev pub stop : Session → Option ℕ
stop d = lowest (λ k. nat_le d.position k && is_some (break_of d k)) (length d.instrs)

-- where a run ends, and which break is said there: behind that instruction, else at the end
abbrev pub run_end : Session → Option ℕ → ℕ × Option ℕ
run_end d (Some k) = (k + 1, break_of d k)
run_end d None = (length d.instrs, None)

-- a run goes forward by at least one instruction
abbrev pub runs_on : Session → Outcome
runs_on d =
    if nat_lt d.position (length d.instrs) then stands d (run_end d (stop d)).0 (run_end d (stop d)).1
    else refuses d error.PastEnd

-- Goes forward by at least one instruction, up to the first for which `run` prints a line, else to the end.
abbrev pub goes_to_event : Session → Outcome
goes_to_event d =
    if nat_lt d.position (length d.instrs) then stands d (event_end d.instrs (next_event d.scenario d.instrs d.position)) None
    else refuses d error.PastEnd

abbrev pub dumps_pool : Session → ℕ → Outcome
dumps_pool d pool =
    if nat_lt pool (pool_count d.scenario) then says d (Text (pool_lines d.scenario (state_at d d.position) pool))
    else refuses d error.NoSuchPool

-- why the work isn't further, in a line
abbrev pub tells_why : Session → ℕ → Outcome
tells_why d w =
    if nat_lt w (length d.scenario.works) then says d (Text (why_line d.scenario (state_at d d.position) w))
    else refuses d error.NoSuchWork

-- what a flush waits for, if it was given by then
abbrev pub tells_waits : Session → Option (List ℕ) → Outcome
tells_waits d (Some lines) = says d (Text lines)
tells_waits d None = refuses d error.NoSuchFlush

-- the command is carried out
abbrev pub does : Session → Command → Outcome
does d (command.Step n) = goes d (d.position + n)
does d (command.Back n) = goes_back d n
does d (command.Goto k) = goes d k
does d (command.BreakWork work kind) = breaks_on_work d work (OnWork work kind)
does d (command.BreakTime time) = breaks_on d (OnTime time)
does d command.BreakRefusal = breaks_on d OnRefusal
does d (command.BreakActivation work) = breaks_on_work d work (OnActivation work)
does d command.List = says d (Text (list_text d.scenario d.breaks))
does d (command.Clear i) = removed d i (break_at d.breaks i)
does d command.Run = runs_on d
does d command.NextEvent = goes_to_event d
does d command.Dump = says d (Text (dump d.scenario (state_at d d.position)))
does d (command.DumpPool pool) = dumps_pool d pool
does d (command.Why work) = tells_why d work.0
does d (command.WhyFlush flush) = tells_waits d (flush_lines d.scenario (state_at d d.position) flush)

-- what is said to each of these, one after another, by what one of them does
abbrev pub said_to_each : {A B : Type 0} → (Session → A → Session × B) → Session → List A → List B
said_to_each one d [] = []
said_to_each one d (x ∷ xs) = (one d x).1 ∷ said_to_each one (one d x).0 xs

-- what is said to the commands
abbrev pub answers : Session → List Command → List (Result Answer DebugError)
answers d commands = said_to_each does d commands

-- what a value of `Said` says
abbrev pub answer_of : Said → Answer
answer_of (said.At position now by) = At position now by
answer_of (said.Broke i) = Broke i
answer_of (said.Cleared i) = Cleared i
answer_of (said.Text text) = Text text.items

-- a debugger at the start; the scenario's first fault; or want of memory, where it has none
abbrev pub OpensDebugger : {D : Type 0} → (D → Session) → ScenarioContents → List Instr → Result D LoadError → Type 0
OpensDebugger session S instrs (Ok debugger) = IsValid S × (session debugger ≡ opened S instrs)
OpensDebugger session S instrs (Err (load.Fault fault)) = first_fault S ≡ Some fault
OpensDebugger session S instrs (Err load.NoMemory) = IsValid S

-- A command came to its outcome, or memory ran out; what isn't carried out changes nothing.
abbrev pub Meets : Outcome → Session → Session → Result Said DebugError → Type 0
Meets outcome old new (Ok told) = outcome ≡ (new, Ok (answer_of told))
Meets outcome old new (Err why) = (new ≡ old) × ((why ≡ error.NoMemory) ⊎ (outcome ≡ (old, Err why)))
