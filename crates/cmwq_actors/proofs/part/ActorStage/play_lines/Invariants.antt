use Rattle.std.proofs.Common.{◌≡◌, ◌++◌, length}
use Rattle.cmwq_runs.specs.RunInstructions.{left}
use Rattle.cmwq_types.specs.Scenario.{expand_lines}
use Rattle.cmwq_lock.specs.Tokens.{pass_view}
use Rattle.cmwq_lock.specs.Views.{caller_of, mine_of}
use Rattle.cmwq_engine.specs.Shared.{IsPassOf}
use Rattle.cmwq_actors.specs.Playing.{HasPassedEach, issued_with}
use Rattle.cmwq_actors.proofs.part.ActorStage.play_lines.Given as goal

abbrev pub invariant-loop-instr : goal.invariant-loop-instr
invariant-loop-instr g l = record {
  token : IsPassOf l.self.shared l.pass;
  caller : caller_of (pass_view l.pass) ≡ l.fn.actor;
  counted : l.calls ≡ length (mine_of (pass_view l.pass));
  gate : HasPassedEach (g.G.Gate.has_passed l.self.gate.now) l.fn.actor l.calls;
  issued : issued_with (pass_view l.pass) ++ left l.instr-iterator ≡ expand_lines l.lines;
}
