use Rattle.std.proofs.Common.{drop}
use Rattle.cmwq_types.specs.Scenario.{expand_lines}
use Rattle.cmwq_play.proofs.SessionLemmas.{IsUnderWay}
use Rattle.cmwq_play.proofs.session.Session.issue_all.Given as goal

-- the instructions of the lines that aren't left were issued
abbrev pub invariant-loop-line : goal.invariant-loop-line
invariant-loop-line g l = record {
  way : IsUnderWay g.M.Reads.loaded g.M.Reads.state g.W.Write.contents g.W.Sink.failed g.T.Teller.told g.T.Teller.keeps l.fn.self l.self l.fn.teller l.teller (expand_lines l.lines) (expand_lines (drop l.line-index l.lines));
  fits : g.T.Teller.fits l.teller (g.M.Reads.state l.self.machine);
}
