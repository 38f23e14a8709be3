-- What carrying out an instruction comes to, once its operands and the steps are judged.
use Rattle.std.specs.Prelude.{◌≡◌, Option, Some, None, Result, Ok, Err}
use Rattle.cmwq_types.specs.Contents.{ScenarioContents}
use Rattle.cmwq_types.specs.declared.instr.Instr.{Instr}
use Rattle.cmwq_types.specs.declared.reply.Refusal.{Refusal}
use Rattle.cmwq_types.specs.declared.reply.Reply.{Reply}
use Rattle.cmwq_table.specs.Ready.{Loaded}
use Rattle.cmwq_table.specs.State.{State}
use Rattle.cmwq_table.specs.Table.{effect, situation}
use Rattle.cmwq_exec.specs.Answered.{answered}
use Rattle.cmwq_exec.specs.declared.answer.Answer.{Answer}

-- a refusal changes nothing
abbrev pub unless_refused : State → Option Refusal → State × Reply → State × Result Reply Refusal
unless_refused s (Some why) after = (s, Err why)
unless_refused s None after = (after.0, Ok after.1)

abbrev pub performed : ScenarioContents → State → Instr → State × Result Reply Refusal
performed S s i = unless_refused s (situation S s i) (effect S s i)

-- the instruction was carried out, or refused
pub record Performs (old : Loaded) (i : Instr) (new : Loaded) (given : Result Answer Refusal) : Type 0 where
  pub state : new ≡ record old { state = (performed old.scenario old.state i).0 }
  pub answered : answered new.state given ≡ (performed old.scenario old.state i).1
