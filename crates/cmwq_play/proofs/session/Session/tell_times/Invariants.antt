use Rattle.std.proofs.Common.{◌≡◌, ◌≤◌, ◌-◌}
use Rattle.cmwq_streams.specs.Blocks.{Sends, SharesSink}
use Rattle.cmwq_table.specs.Events.{reply_line}
use Rattle.cmwq_lines.specs.Putting.{repeated}
use Rattle.cmwq_play.specs.Session.{CanIssue}
use Rattle.cmwq_play.proofs.session.Session.tell_times.Given as goal

-- the line was written as often as it isn't left
abbrev pub invariant-loop-left : goal.invariant-loop-left
invariant-loop-left g l = record {
  few : l.left ≤ l.times;
  ready : CanIssue g.M.Reads.loaded g.M.Reads.state g.W.Write.contents g.W.Sink.failed l.self;
  scenario : l.self.scenario.now ≡ l.fn.self.scenario.now;
  machine : l.self.machine ≡ l.fn.self.machine;
  same : SharesSink l.fn.self.lines l.self.lines;
  sent : Sends g.W.Write.contents l.fn.self.lines l.self.lines (repeated (reply_line l.fn.self.scenario.now (g.M.Reads.state l.fn.self.machine).time l.instr l.reply) (l.times - l.left));
}

abbrev pub decreases-loop-left : goal.decreases-loop-left
decreases-loop-left g l = l.left
