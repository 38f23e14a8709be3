use Rattle.std.proofs.Common.{◌≡◌, ◌-◌, ◌≤◌, false, length, take}
use Rattle.cmwq_debug_session.specs.Told.{Told}
use Rattle.cmwq_debug_session.proofs.debugging.answer_lines.Given as goal

-- the lines so far were answered
abbrev pub invariant-loop-len : goal.invariant-loop-len
invariant-loop-len g l = record {
  told : Told (g.W.Write.contents l.fn.writer) (g.W.Write.contents l.writer) l.manner l.scenario l.fn.debugger (take l.taken l.text) l.debugger;
  within : l.taken ≤ length l.text;
  sound : g.W.Sink.failed l.writer ≡ false;
}

abbrev pub decreases-loop-len : goal.decreases-loop-len
decreases-loop-len g l = length l.text - l.taken
