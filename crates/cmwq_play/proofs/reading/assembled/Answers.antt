use Rattle.std.proofs.Common.{Err, ap}
use Rattle.std.proofs.lemmas.Result.{err_from_is_err_and}
use Rattle.cmwq_play.proofs.TextLemmas.{answers_spelled, answers_unassembled}
use Rattle.cmwq_play.proofs.reading.assembled.Goals as goal

pub returns-clause-answers : goal.returns-clause-answers
returns-clause-answers c = answers_spelled c.args.text.now c.in_ok-scenario.scenario c.in_ok-scenario.ensures.fault

pub returns-in_err-scenario-clause-answers : goal.returns-in_err-scenario-clause-answers
returns-in_err-scenario-clause-answers c =
    let p = err_from_is_err_and c.from_residual.result c.from_residual.ensures.1 in
    rw (p.1, p.2)
    (answers_unassembled c.args.text.now c.in_err-scenario.field-0.0 (λ line why is. c.in_err-scenario.ensures.told line why (ap Err is)) c.in_err-scenario.ensures.only c.in_err-scenario.ensures.fault)
