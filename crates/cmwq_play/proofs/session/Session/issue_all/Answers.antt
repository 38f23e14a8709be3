use Rattle.std.proofs.Common.{◌≡◌, ◌++◌, ◌+◌, ap, drop, refl, replicate}
use Rattle.std.proofs.lemmas.List.{drop_more}
use Rattle.std.proofs.lemmas.Result.{err_from_is_err_and}
use Rattle.std.specs.Prelude.{slice_index_or}
use Rattle.cmwq_runs.proofs.LineLemmas.{no_line}
use Rattle.cmwq_types.specs.Scenario.{expand_lines}
use Rattle.cmwq_play.proofs.SessionLemmas.{begins, goes_on, stops}
use Rattle.cmwq_play.proofs.session.Session.issue_all.Goals as goal

pub loop-line-init : goal.loop-line-init
loop-line-init g c =
    let all = expand_lines c.args.lines.now in
    record {
      way = begins g.M.Reads.loaded g.M.Reads.state g.W.Write.contents g.W.Sink.failed g.T.Teller.told g.T.Teller.keeps c.args.self.now c.args.teller.now all all refl c.requires.ready;
      fits = c.requires.fits;
    }

pub loop-line-preserved : goal.loop-line-preserved
unfolding no_line
loop-line-preserved g c =
    let lines = c.args.lines.now in
    let i = c.loop-line.line-index in
    let line = slice_index_or lines i no_line in
    let next : expand_lines (drop i lines) ≡ replicate line.times line.instr ++ expand_lines (drop (i + 1) lines) = ap expand_lines (drop_more lines i no_line c.loop-line-test.true) in
    record {
      way =
          goes_on g.M.Reads.loaded g.M.Reads.state g.W.Write.contents g.W.Sink.failed g.T.Teller.told g.T.Teller.keeps c.args.self.now c.loop-line.self c.args.teller.now c.loop-line.teller (expand_lines lines) (expand_lines (drop i lines))
          (replicate line.times line.instr) (expand_lines (drop (i + 1) lines)) next c.loop-line.invariant.way c.issue_times.new.session c.issue_times.new.self c.in_ok-issue_times.ensures.told c.in_ok-issue_times.ensures.keeps;
      fits = c.in_ok-issue_times.ensures.fits;
    }

pub returns-in_err-issue_times-clause-told : goal.returns-in_err-issue_times-clause-told
unfolding no_line
returns-in_err-issue_times-clause-told g c =
    let lines = c.args.lines.now in
    let i = c.loop-line.line-index in
    let line = slice_index_or lines i no_line in
    let next : expand_lines (drop i lines) ≡ replicate line.times line.instr ++ expand_lines (drop (i + 1) lines) = ap expand_lines (drop_more lines i no_line c.loop-line-test.true) in
    let p = err_from_is_err_and c.from_residual.result c.from_residual.ensures.1 in
    rw (p.1, p.2) (stops g.M.Reads.loaded g.M.Reads.state g.W.Write.contents g.W.Sink.failed g.T.Teller.told g.T.Teller.keeps c.args.self.now c.loop-line.self c.args.teller.now c.loop-line.teller (expand_lines lines) (expand_lines (drop i lines))
    (replicate line.times line.instr) (expand_lines (drop (i + 1) lines)) next c.loop-line.invariant.way c.issue_times.new.session c.in_err-issue_times.field-0.0 c.in_err-issue_times.ensures.told)
