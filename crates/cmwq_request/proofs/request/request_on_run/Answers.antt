use Rattle.std.proofs.Common.{rules, ◌≡◌, ◌∙◌, Some}
use Rattle.clap.specs.Words.{found_of, rows_of}
use Rattle.cmwq_request.proofs.WhyLemmas.{asked_met}
use Rattle.cmwq_request.proofs.ReportLemmas.{times_met, trace_met}
use Rattle.cmwq_request.specs.Request.{file_to_ask, file_to_time, file_to_trace}
use Rattle.cmwq_request.proofs.request.request_on_run.Goals as goal

pub returns-in-why-clause-words : goal.returns-in-why-clause-words
returns-in-why-clause-words c asked is fits =
    let rows = rows_of (found_of c.args.given.now) in
    let asks : file_to_ask rows ≡ Some asked = search rules in
    let (every, settle, flag, goes_on, words) = asked_met rows asked asks in
    c.why_request.ensures.words every settle flag goes_on ∙ words

pub returns-in-times-clause-words : goal.returns-in-times-clause-words
returns-in-times-clause-words c asked is fits =
    let rows = rows_of (found_of c.args.given.now) in
    let times : file_to_time rows ≡ Some asked = search rules in
    let (json, whom, json_is, whom_is, words) = times_met rows asked times in
    c.times_request.ensures.words json whom json_is whom_is ∙ words

pub returns-in-trace-clause-words : goal.returns-in-trace-clause-words
returns-in-trace-clause-words c asked is fits =
    let rows = rows_of (found_of c.args.given.now) in
    let traces : file_to_trace rows ≡ Some asked = search rules in
    let (json, lines, text, json_is, lines_is, text_is, words) = trace_met rows asked traces in
    c.trace_request.ensures.words json lines text json_is lines_is text_is ∙ words
