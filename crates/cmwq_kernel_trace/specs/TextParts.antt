-- What is kept along a run whose text is written at its end. No public clause cites this.
use Rattle.std.specs.Prelude.{◌≡◌, length}
use Rattle.cmwq_types.specs.Contents.{ScenarioContents}
use Rattle.cmwq_types.specs.declared.instr.Instr.{Instr}
use Rattle.cmwq_types.specs.declared.reply.Reply.{Reply}
use Rattle.cmwq_table.specs.State.{State}
use Rattle.cmwq_events.specs.Followed.{LeadsTo, followed_on}
use Rattle.cmwq_kernel_trace.specs.declared.text_trace.TextTeller.{TextTeller}

-- the events lead to this state
pub record FitsText (teller : TextTeller) (s : State) : Type 0 where
  pub leads : LeadsTo teller.events s
  pub long : length s.running ≡ length s.pending

abbrev pub fits_text : TextTeller → State → Type 0
fits_text teller s = FitsText teller s

abbrev pub keeps_text : TextTeller → ScenarioContents → State → Instr → State × Reply → TextTeller
keeps_text teller S s instr after = record teller { events = followed_on S s instr after teller.events }
