use Rattle.std.proofs.Common.{◌≡◌, Bool, Ok, false, rules, subst, true}
use Rattle.std.proofs.lemmas.Result.{err_from_is_err_and}
use Rattle.cmwq_explain.proofs.ExplainLemmas.{Told, explains-failed, explains-silent, explains-told, explains-unsettled, not_unknown}
use Rattle.cmwq_explain.proofs.explaining.explain.Goals as goal

pub returns-in_err-scenario : goal.returns-in_err-scenario
returns-in_err-scenario g c =
    let p = err_from_is_err_and c.from_residual.result c.from_residual.ensures.1 in
    rw (p.1, p.2) (explains-unsettled c.args.inquiry c.args.scenario (g.W.Write.contents c.args.writer.now) (g.W.Sink.failed c.args.writer.now) c.in_err-scenario.field-0.0 c.requires.sound c.in_err-scenario.ensures.why)

pub returns-in_err-is_answered : goal.returns-in_err-is_answered
returns-in_err-is_answered g c =
    let S = c.args.scenario in
    let T = c.in_ok-scenario.scenario in
    let settled = c.in_ok-scenario.ensures in
    let known = not_unknown c.args.inquiry.question T c.is_unknown.result c.is_unknown.ensures.1 c.if-is_unknown.false in
    let p = err_from_is_err_and c.from_residual-in_err-is_answered.result c.from_residual-in_err-is_answered.ensures.1 in
    rw (p.1, p.2) (explains-failed c.args.inquiry S T settled.settled settled.can.0 settled.can.1 known (g.W.Write.contents c.args.writer.now) (g.W.Write.contents c.tell_changes.new.writer) (g.W.Sink.failed c.tell_changes.new.writer)
    c.in_err-is_answered.field-0.0 (c.in_err-is_answered.ensures settled.can.0 settled.can.1))

pub returns-then-not-is_answered : goal.returns-then-not-is_answered
returns-then-not-is_answered g c =
    let S = c.args.scenario in
    let T = c.in_ok-scenario.scenario in
    let settled = c.in_ok-scenario.ensures in
    let known = not_unknown c.args.inquiry.question T c.is_unknown.result c.is_unknown.ensures.1 c.if-is_unknown.false in
    let before = g.W.Write.contents c.args.writer.now in
    let after = g.W.Write.contents c.tell_changes.new.writer in
    let failed = g.W.Sink.failed c.tell_changes.new.writer in
    let is : c.in_ok-is_answered.is_answered ≡ false = search rules in
    explains-silent c.args.inquiry S T settled.settled settled.can.0 settled.can.1 known before after failed
    (subst (λ (b : Bool). Told c.args.inquiry S T settled.settled settled.can.0 settled.can.1 known before after failed (Ok b)) is (c.in_ok-is_answered.ensures settled.can.0 settled.can.1))

pub returns : goal.returns
returns g c =
    let S = c.args.scenario in
    let T = c.in_ok-scenario.scenario in
    let settled = c.in_ok-scenario.ensures in
    let known = not_unknown c.args.inquiry.question T c.is_unknown.result c.is_unknown.ensures.1 c.if-is_unknown.false in
    let before = g.W.Write.contents c.args.writer.now in
    let after = g.W.Write.contents c.tell_changes.new.writer in
    let failed = g.W.Sink.failed c.tell_changes.new.writer in
    let is : c.in_ok-is_answered.is_answered ≡ true = search rules in
    explains-told c.args.inquiry S T settled.settled settled.can.0 settled.can.1 known before after failed
    (subst (λ (b : Bool). Told c.args.inquiry S T settled.settled settled.can.0 settled.can.1 known before after failed (Ok b)) is (c.in_ok-is_answered.ensures settled.can.0 settled.can.1))
