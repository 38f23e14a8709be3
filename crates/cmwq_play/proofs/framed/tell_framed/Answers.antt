use Rattle.std.proofs.Common.{◌≡◌, List, ℕ, refl, subst}
use Rattle.std.proofs.lemmas.Result.{err_from_is_err_and}
use Rattle.cmwq_types.specs.Contents.{ScenarioContents}
use Rattle.cmwq_types.specs.Scenario.{expand_lines}
use Rattle.cmwq_table.specs.State.{State}
use Rattle.cmwq_table.specs.Table.{after_all}
use Rattle.cmwq_play.specs.Session.{Issues}
use Rattle.cmwq_play.specs.Framing.{told_and_closed}
use Rattle.cmwq_play.proofs.PartLemmas.{alike, stopped_more, then_issues}
use Rattle.cmwq_play.proofs.framed.tell_framed.Goals as goal

pub returns-in_err-open : goal.returns-in_err-open
returns-in_err-open g c =
    let a = c.args.session.now in
    let b = c.open.new.session in
    let S = a.scenario.now in
    let s = g.M.Reads.state a.machine in
    let instrs = expand_lines c.args.lines.now in
    let first = g.T.Framed.opening c.args.teller.now S in
    let second = told_and_closed g.T.Teller.told g.T.Teller.keeps g.T.Framed.opening g.T.Framed.closing c.args.teller.now S s instrs in
    let p = err_from_is_err_and c.from_residual.result c.from_residual.ensures.1 in
    rw (p.1, p.2) (stopped_more g.M.Reads.loaded g.M.Reads.state g.W.Write.contents g.W.Sink.failed a b first second c.in_err-open.field-0.0 c.in_err-open.ensures)

pub returns : goal.returns
returns g c =
    let a = c.args.session.now in
    let b = c.open.new.session in
    let d = c.tell_and_close.new.session in
    let S = a.scenario.now in
    let s = g.M.Reads.state a.machine in
    let instrs = expand_lines c.args.lines.now in
    let to = after_all S s instrs in
    let teller = c.args.teller.now in
    let first = g.T.Framed.opening teller S in
    let rest = λ (t : State) (T : ScenarioContents). told_and_closed g.T.Teller.told g.T.Teller.keeps g.T.Framed.opening g.T.Framed.closing teller T t instrs in
    let issued = c.in_ok-open.ensures in
    let same : rest (g.M.Reads.state b.machine) b.scenario.now ≡ rest s S = alike (λ l T t. rest t T) teller teller b.scenario.now S (g.M.Reads.state b.machine) s refl issued.scenario issued.reached in
    let there : after_all b.scenario.now (g.M.Reads.state b.machine) instrs ≡ to = alike (λ l T t. after_all T t instrs) teller teller b.scenario.now S (g.M.Reads.state b.machine) s refl issued.scenario issued.reached in
    then_issues g.M.Reads.loaded g.M.Reads.state g.W.Write.contents g.W.Sink.failed a b d s first (rest s S) to c.tell_and_close.result issued
    (subst (λ (text : List ℕ). Issues g.M.Reads.loaded g.M.Reads.state g.W.Write.contents g.W.Sink.failed b d to text c.tell_and_close.result) same
    (subst (λ (t : State). Issues g.M.Reads.loaded g.M.Reads.state g.W.Write.contents g.W.Sink.failed b d t (rest (g.M.Reads.state b.machine) b.scenario.now) c.tell_and_close.result) there c.tell_and_close.ensures))
