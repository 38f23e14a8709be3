use Rattle.std.proofs.lemmas.Result.{err_from_is_err_and}
use Rattle.cmwq_play.specs.Runs.{IsRefused}
use Rattle.cmwq_play.proofs.CommandLemmas.{sending_outside}
use Rattle.cmwq_play.proofs.TextLemmas.{answers_told, answers_unread, answers_well, not_refused, refused_once}
use Rattle.cmwq_play.specs.Framing.{IsTextBy}
use Rattle.cmwq_kernel_trace.specs.DataTrace.{dat_of_run}
use Rattle.cmwq_kernel_trace.proofs.data_trace.trace_dat.Goals as goal

pub returns-in_err-scenario-clause-answers : goal.returns-in_err-scenario-clause-answers
returns-in_err-scenario-clause-answers g c =
    let p = err_from_is_err_and c.from_residual.result c.from_residual.ensures.1 in
    rw (p.1, p.2) (answers_unread (IsTextBy dat_of_run) IsRefused (g.R.Read.remaining c.args.reader.now) c.in_err-scenario.field-0.0 c.in_err-scenario.ensures.answers)

pub returns-in_err-judge-clause-answers : goal.returns-in_err-judge-clause-answers
returns-in_err-judge-clause-answers g c =
    let S = c.in_ok-scenario.scenario in
    let refused = c.in_err-judge.ensures.refused in
    let p = err_from_is_err_and c.from_residual-in_err-judge.result c.from_residual-in_err-judge.ensures.1 in
    rw (p.1, p.2) (answers_told (IsTextBy dat_of_run) IsRefused S S (g.R.Read.remaining c.args.reader.now) c.in_err-judge.field-0.0 refused (λ fault told. told)
    (λ fault told. refused_once S c.in_err-judge.field-0.0 fault refused told) (λ output is. not_refused S c.in_err-judge.field-0.0 (is.0, is.1) refused)
    c.in_ok-scenario.ensures.found c.in_ok-scenario.ensures.only c.in_ok-scenario.ensures.answers)

pub returns-clause-answers : goal.returns-clause-answers
returns-clause-answers g c =
    let S = c.in_ok-scenario.scenario in
    answers_well (IsTextBy dat_of_run) IsRefused S S (g.R.Read.remaining c.args.reader.now) c.write_dat.result (λ fault told. not_refused S fault c.in_ok-judge.ensures.can told)
    (sending_outside c.write_dat.result c.write_dat.ensures.why) c.in_ok-scenario.ensures.only c.in_ok-scenario.ensures.answers
