use Rattle.std.proofs.Common.{◌-◌, replicate}
use Rattle.cmwq_play.proofs.SessionLemmas.{IsUnderWay}
use Rattle.cmwq_play.proofs.teller.Teller.issue_times.Given as goal

-- the turns that aren't left were issued
abbrev pub invariant-loop-turn : goal.invariant-loop-turn
invariant-loop-turn g l = record {
  way : IsUnderWay g.M.Reads.loaded g.M.Reads.state g.W.Write.contents g.W.Sink.failed g.Self.Teller.told g.Self.Teller.keeps l.fn.session l.session l.fn.self l.self (replicate l.times l.instr) (replicate (l.times - l._turn) l.instr);
  fits : g.Self.Teller.fits l.self (g.M.Reads.state l.session.machine);
}
