use Rattle.std.proofs.Common.{◌≡◌, List, ℕ, subst}
use Rattle.std.proofs.lemmas.Result.{err_from_is_err_and}
use Rattle.cmwq_types.specs.Scenario.{expand_lines}
use Rattle.cmwq_table.specs.State.{State}
use Rattle.cmwq_table.specs.Table.{after_all}
use Rattle.cmwq_play.specs.Session.{Issues}
use Rattle.cmwq_play.specs.Telling.{kept_from, told_from}
use Rattle.cmwq_play.proofs.PartLemmas.{alike, stopped_more, then_issues}
use Rattle.cmwq_play.proofs.framed.tell_and_close.Goals as goal

pub returns-in_err-issue_all : goal.returns-in_err-issue_all
returns-in_err-issue_all g c =
    let a = c.args.session.now in
    let b = c.issue_all.new.self in
    let S = a.scenario.now in
    let s = g.M.Reads.state a.machine in
    let instrs = expand_lines c.args.lines.now in
    let first = told_from g.T.Teller.told g.T.Teller.keeps c.args.teller.now S s instrs in
    let second = g.T.Framed.closing (kept_from g.T.Teller.told g.T.Teller.keeps c.args.teller.now S s instrs) S (after_all S s instrs) in
    let p = err_from_is_err_and c.from_residual.result c.from_residual.ensures.1 in
    rw (p.1, p.2) (stopped_more g.M.Reads.loaded g.M.Reads.state g.W.Write.contents g.W.Sink.failed a b first second c.in_err-issue_all.field-0.0 c.in_err-issue_all.ensures.told)

pub returns : goal.returns
returns g c =
    let a = c.args.session.now in
    let b = c.issue_all.new.self in
    let d = c.close.new.session in
    let S = a.scenario.now in
    let s = g.M.Reads.state a.machine in
    let instrs = expand_lines c.args.lines.now in
    let to = after_all S s instrs in
    let first = told_from g.T.Teller.told g.T.Teller.keeps c.args.teller.now S s instrs in
    let keeper = kept_from g.T.Teller.told g.T.Teller.keeps c.args.teller.now S s instrs in
    let second = g.T.Framed.closing keeper S to in
    let issued = c.in_ok-issue_all.ensures.told in
    let same : g.T.Framed.closing c.issue_all.new.teller b.scenario.now (g.M.Reads.state b.machine) ≡ second =
    alike g.T.Framed.closing c.issue_all.new.teller keeper b.scenario.now S (g.M.Reads.state b.machine) to c.in_ok-issue_all.ensures.keeps issued.scenario issued.reached in
    then_issues g.M.Reads.loaded g.M.Reads.state g.W.Write.contents g.W.Sink.failed a b d to first second to c.close.result issued
    (subst (λ (text : List ℕ). Issues g.M.Reads.loaded g.M.Reads.state g.W.Write.contents g.W.Sink.failed b d to text c.close.result) same
    (subst (λ (t : State). Issues g.M.Reads.loaded g.M.Reads.state g.W.Write.contents g.W.Sink.failed b d t (g.T.Framed.closing c.issue_all.new.teller b.scenario.now (g.M.Reads.state b.machine)) c.close.result) issued.reached c.close.ensures))
