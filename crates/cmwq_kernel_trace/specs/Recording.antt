-- The events so far, and those that are still to come. No public clause cites this.
use Rattle.std.specs.Prelude.{◌≡◌, List, ◌++◌, length}
use Rattle.cmwq_types.specs.Contents.{ScenarioContents}
use Rattle.cmwq_types.specs.declared.instr.Instr.{Instr}
use Rattle.cmwq_table.specs.State.{State}
use Rattle.cmwq_events.specs.Followed.{Followed, LeadsTo}
use Rattle.cmwq_events.specs.KernelEvents.{kernel_events_from}
use Rattle.cmwq_events.specs.declared.kernel_event.KernelEvent.{KernelEvent}

-- the events lead to this state, which has as many works that may run as the scenario has works
pub record IsAt (S : ScenarioContents) (kept : Followed) (s : State) : Type 0 where
  pub leads : LeadsTo kept s
  pub works : length s.running ≡ length S.works

-- all events of a run that had these, and goes on with these instructions
abbrev pub goes_on : ScenarioContents → List KernelEvent → State → List Instr → List KernelEvent
goes_on S told s more = told ++ kernel_events_from S s more
