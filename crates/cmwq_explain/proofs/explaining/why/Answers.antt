use Rattle.std.proofs.lemmas.Result.{err_from_is_err_and}
use Rattle.cmwq_play.specs.PlayTexts.{ComesTo}
use Rattle.cmwq_play.proofs.CommandLemmas.{reads_ok, writes_more}
use Rattle.cmwq_play.proofs.TextLemmas.{answers_unread}
use Rattle.cmwq_explain.specs.Explained.{AreChanges, IsAnswer, IsUnanswered}
use Rattle.cmwq_explain.proofs.AnswerLemmas.{after_flush}
use Rattle.cmwq_explain.proofs.ExplainLemmas.{answers-explained, reads-nothing}
use Rattle.cmwq_explain.proofs.explaining.why.Goals as goal

pub returns-in_err-scenario-clause-answers : goal.returns-in_err-scenario-clause-answers
returns-in_err-scenario-clause-answers g c =
    let p = err_from_is_err_and c.from_residual.result c.from_residual.ensures.1 in
    rw (p.1, p.2) (answers_unread (IsAnswer c.args.inquiry) (IsUnanswered c.args.inquiry) (g.R.Read.remaining c.args.reader.now) c.in_err-scenario.field-0.0 c.in_err-scenario.ensures.answers)

pub returns-clause-reads : goal.returns-clause-reads
returns-clause-reads g c =
    reads_ok (g.R.Read.remaining c.args.reader.now) (g.R.Read.remaining c.read_text.new.reader) (g.R.Source.failed c.read_text.new.reader) c.in_ok-scenario.scenario c.explain.result
    (reads-nothing c.args.inquiry c.in_ok-scenario.scenario c.explain.result c.explain.ensures.why) c.in_ok-scenario.ensures.reads

pub returns-clause-answers : goal.returns-clause-answers
returns-clause-answers g c =
    let S = c.in_ok-scenario.scenario in
    answers-explained c.args.inquiry S S (g.R.Read.remaining c.args.reader.now) _ _ _ c.explain.result c.explain.ensures c.in_ok-scenario.ensures.found c.in_ok-scenario.ensures.only c.in_ok-scenario.ensures.answers

pub returns-clause-after_flush : goal.returns-clause-after_flush
returns-clause-after_flush g c = after_flush c.args.inquiry c.in_ok-scenario.scenario _ _ _ c.explain.result c.explain.ensures

pub returns-clause-writes : goal.returns-clause-writes
returns-clause-writes g c =
    let S = c.in_ok-scenario.scenario in
    writes_more (AreChanges c.args.inquiry S) (ComesTo (AreChanges c.args.inquiry) (g.R.Read.remaining c.args.reader.now)) _ _ _
    c.explain.result (λ output are. (S, c.in_ok-scenario.ensures.found, are)) c.explain.ensures.writes
