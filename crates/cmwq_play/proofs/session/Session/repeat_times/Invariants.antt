use Rattle.std.proofs.Common.{replicate}
use Rattle.cmwq_play.proofs.RepeatingLemmas.{keeping, replies, telling}
use Rattle.cmwq_play.proofs.SessionLemmas.{IsUnderWay}
use Rattle.cmwq_play.proofs.session.Session.repeat_times.Given as goal

-- so many are left
abbrev pub invariant-loop-left : goal.invariant-loop-left
invariant-loop-left g l = IsUnderWay g.M.Reads.loaded g.M.Reads.state g.W.Write.contents g.W.Sink.failed telling keeping l.fn.self l.self replies replies (replicate l.times l.instr) (replicate l.left l.instr)

abbrev pub decreases-loop-left : goal.decreases-loop-left
decreases-loop-left g l = l.left
