-- What is kept along a run whose events are told.
use Rattle.std.specs.Prelude.{◌≡◌, ℕ, List, [], ◌++◌, Option, None, replicate}
use Rattle.cmwq_types.specs.Contents.{ScenarioContents}
use Rattle.cmwq_types.specs.declared.instr.Instr.{Instr}
use Rattle.cmwq_types.specs.declared.reply.Reply.{Reply}
use Rattle.cmwq_table.specs.State.{State}
use Rattle.cmwq_table.specs.declared.state.Pending.{Pending}
use Rattle.cmwq_table.specs.declared.state.Running.{Running}
use Rattle.cmwq_events.specs.KernelEvents.{instr_events}
use Rattle.cmwq_events.specs.declared.kernel_event.KernelEvent.{KernelEvent}

-- the events so far, and the next stamp and the instances of the state to which they lead
pub record Followed : Type 0 where
  pub next : ℕ
  pub pending : List (Option Pending)
  pub running : List (Option Running)
  pub events : List KernelEvent

abbrev pub followed : ℕ → List (Option Pending) → List (Option Running) → List KernelEvent → Followed
followed next pending running events = record { next = next; pending = pending; running = running; events = events }

-- at the start of a run of so many works
abbrev pub none_followed : ℕ → Followed
none_followed works = record { next = 0; pending = replicate works None; running = replicate works None; events = [] }

-- once an instruction was followed from a state
abbrev pub followed_on : ScenarioContents → State → Instr → State × Reply → Followed → Followed
followed_on S s i after old =
    record { next = after.0.next; pending = after.0.pending; running = after.0.running; events = old.events ++ instr_events S s i after }

-- this is the state to which the events lead
pub record LeadsTo (kept : Followed) (s : State) : Type 0 where
  pub next : kept.next ≡ s.next
  pub pending : kept.pending ≡ s.pending
  pub running : kept.running ≡ s.running
