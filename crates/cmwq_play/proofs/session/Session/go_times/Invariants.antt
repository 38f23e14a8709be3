use Rattle.std.proofs.Common.{replicate}
use Rattle.cmwq_types.specs.declared.instr.Instr.TheVariants.{Next}
use Rattle.cmwq_play.proofs.RepeatingLemmas.{keeping, replies, telling}
use Rattle.cmwq_play.proofs.SessionLemmas.{IsUnderWay}
use Rattle.cmwq_play.proofs.session.Session.go_times.Given as goal

-- so many are left
abbrev pub invariant-loop-left : goal.invariant-loop-left
invariant-loop-left g l = IsUnderWay g.M.Reads.loaded g.M.Reads.state g.W.Write.contents g.W.Sink.failed telling keeping l.fn.self l.self replies replies (replicate l.times Next) (replicate l.left Next)

abbrev pub decreases-loop-left : goal.decreases-loop-left
decreases-loop-left g l = l.left
