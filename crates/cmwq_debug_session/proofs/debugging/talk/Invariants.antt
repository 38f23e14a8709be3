use Rattle.std.proofs.Common.{◌≡◌, ◌≤◌, false, length}
use Rattle.cmwq_debug_session.specs.Told.{IsAnswered}
use Rattle.cmwq_debug_session.proofs.debugging.talk.Given as goal

-- what was heard has been answered, and at least a byte was heard a turn
abbrev pub invariant-loop-turn : goal.invariant-loop-turn
invariant-loop-turn g l = record {
  answered : IsAnswered (g.R.Read.remaining l.fn.commands) (g.R.Read.remaining l.commands) (g.W.Write.contents l.fn.writer) (g.W.Write.contents l.writer) l.manner l.scenario l.fn.debugger l.text.items l.done l.debugger;
  long : l._turn ≤ length l.text.items;
  reads : g.R.Source.failed l.commands ≡ false;
  writes : g.W.Sink.failed l.writer ≡ false;
}
