use Rattle.std.proofs.Common.{Err, ap, refl}
use Rattle.std.proofs.lemmas.Result.{err_from_is_err_and, on_ok_weaker}
use Rattle.cmwq_play.proofs.CommandLemmas.{err_is, reads_err, reads_ok, writes_err, writes_more}
use Rattle.cmwq_play.proofs.TextLemmas.{answers_unread}
use Rattle.cmwq_settle.specs.Settled.{IsNotSettled}
use Rattle.cmwq_settle.specs.Settling.{IsEndlessOutput, IsEndlessRun, IsFollowedOutput, IsFollowedRun, IsSettledOutput, IsSettledRun}
use Rattle.cmwq_settle.proofs.AnswerLemmas.{answers_printed, answers_unsettled, refused-told}
use Rattle.cmwq_settle.proofs.SettlingLemmas.{printing-reads, refused-other, refused-reads, refused-writes, unread-other, wrote-more}
use Rattle.cmwq_settle.proofs.settled_run.run_settled.Goals as goal

pub returns-in_err-scenario-clause-reads : goal.returns-in_err-scenario-clause-reads
returns-in_err-scenario-clause-reads g c =
    let p = err_from_is_err_and c.from_residual.result c.from_residual.ensures.1 in
    rw (p.1, p.2) (reads_err (g.R.Read.remaining c.args.reader.now) (g.R.Read.remaining c.read_text.new.reader) (g.R.Source.failed c.read_text.new.reader) c.in_err-scenario.field-0.0 c.in_err-scenario.ensures.reads)

pub returns-in_err-scenario-clause-answers : goal.returns-in_err-scenario-clause-answers
returns-in_err-scenario-clause-answers g c =
    let p = err_from_is_err_and c.from_residual.result c.from_residual.ensures.1 in
    rw (p.1, p.2) (answers_unread IsSettledOutput IsNotSettled (g.R.Read.remaining c.args.reader.now) c.in_err-scenario.field-0.0 c.in_err-scenario.ensures.answers)

pub returns-in_err-scenario-clause-never_quiet : goal.returns-in_err-scenario-clause-never_quiet
returns-in_err-scenario-clause-never_quiet g c = λ is.
    let error = c.in_err-scenario.field-0.0 in
    let p = err_from_is_err_and c.from_residual.result c.from_residual.ensures.1 in
    absurd (unread-other (g.R.Read.remaining c.args.reader.now) error c.in_err-scenario.ensures.answers.told (err_is {A = Unit {0}} error _ (Err error) refl (rw (p.1, p.2) at is)))

pub returns-in_err-scenario-clause-writes : goal.returns-in_err-scenario-clause-writes
returns-in_err-scenario-clause-writes g c =
    let p = err_from_is_err_and c.from_residual.result c.from_residual.ensures.1 in
    rw (p.1, p.2) (writes_err (IsFollowedRun (g.R.Read.remaining c.args.reader.now)) (g.W.Write.contents c.args.writer.now) (g.W.Sink.failed c.args.writer.now) c.in_err-scenario.field-0.0 c.requires.writer (λ is. c.in_err-scenario.ensures.no_write (ap Err is)))

pub returns-in_err-judge-clause-reads : goal.returns-in_err-judge-clause-reads
returns-in_err-judge-clause-reads g c =
    let S = c.in_ok-scenario.scenario in
    let error = c.in_err-judge.field-0.0 in
    let p = err_from_is_err_and c.from_residual-in_err-judge.result c.from_residual-in_err-judge.ensures.1 in
    rw (p.1, p.2) (reads_ok {B = Unit {0}} (g.R.Read.remaining c.args.reader.now) (g.R.Read.remaining c.read_text.new.reader) (g.R.Source.failed c.read_text.new.reader) S (Err error)
    (λ is. refused-reads S error c.in_err-judge.ensures.refused (err_is error _ (Err error) refl is)) c.in_ok-scenario.ensures.reads)

pub returns-in_err-judge-clause-answers : goal.returns-in_err-judge-clause-answers
returns-in_err-judge-clause-answers g c =
    let S = c.in_ok-scenario.scenario in
    let input = g.R.Read.remaining c.args.reader.now in
    let error = c.in_err-judge.field-0.0 in
    let p = err_from_is_err_and c.from_residual-in_err-judge.result c.from_residual-in_err-judge.ensures.1 in
    rw (p.1, p.2) (answers_unsettled S input input input c.in_ok-scenario.ensures.found c.in_ok-scenario.ensures.only S error (refused-told S error c.in_err-judge.ensures.refused) c.in_ok-scenario.ensures.answers)

pub returns-in_err-judge-clause-never_quiet : goal.returns-in_err-judge-clause-never_quiet
returns-in_err-judge-clause-never_quiet g c = λ is.
    let error = c.in_err-judge.field-0.0 in
    let p = err_from_is_err_and c.from_residual-in_err-judge.result c.from_residual-in_err-judge.ensures.1 in
    absurd (refused-other c.in_ok-scenario.scenario error c.in_err-judge.ensures.refused (err_is {A = Unit {0}} error _ (Err error) refl (rw (p.1, p.2) at is)))

pub returns-in_err-judge-clause-writes : goal.returns-in_err-judge-clause-writes
returns-in_err-judge-clause-writes g c =
    let S = c.in_ok-scenario.scenario in
    let error = c.in_err-judge.field-0.0 in
    let p = err_from_is_err_and c.from_residual-in_err-judge.result c.from_residual-in_err-judge.ensures.1 in
    rw (p.1, p.2) (writes_err (IsFollowedRun (g.R.Read.remaining c.args.reader.now)) (g.W.Write.contents c.args.writer.now) (g.W.Sink.failed c.args.writer.now) error c.requires.writer (refused-writes S error c.in_err-judge.ensures.refused))

pub returns-clause-reads : goal.returns-clause-reads
returns-clause-reads g c =
    reads_ok (g.R.Read.remaining c.args.reader.now) (g.R.Read.remaining c.read_text.new.reader) (g.R.Source.failed c.read_text.new.reader) c.in_ok-scenario.scenario c.count_and_print.result
    (printing-reads c.count_and_print.result c.count_and_print.ensures.why) c.in_ok-scenario.ensures.reads

pub returns-clause-answers : goal.returns-clause-answers
returns-clause-answers g c =
    let S = c.in_ok-scenario.scenario in
    answers_printed S (g.R.Read.remaining c.args.reader.now) (g.W.Write.contents c.args.writer.now) (g.W.Write.contents c.count_and_print.new.writer) c.in_ok-scenario.ensures.found c.in_ok-scenario.ensures.only
    S c.count_and_print.result c.count_and_print.ensures.quiet c.count_and_print.ensures.never_quiet c.count_and_print.ensures.why c.in_ok-scenario.ensures.answers

pub returns-clause-quiet : goal.returns-clause-quiet
returns-clause-quiet g c =
    let S = c.in_ok-scenario.scenario in
    on_ok_weaker c.count_and_print.result
    (wrote-more (IsSettledOutput S) (IsSettledRun (g.R.Read.remaining c.args.reader.now)) (g.W.Write.contents c.args.writer.now) (g.W.Write.contents c.count_and_print.new.writer) (λ output is. (S, c.in_ok-scenario.ensures.found, is)))
    c.count_and_print.ensures.quiet

pub returns-clause-never_quiet : goal.returns-clause-never_quiet
returns-clause-never_quiet g c = λ never.
    let S = c.in_ok-scenario.scenario in
    wrote-more (IsEndlessOutput S) (IsEndlessRun (g.R.Read.remaining c.args.reader.now)) (g.W.Write.contents c.args.writer.now) (g.W.Write.contents c.count_and_print.new.writer) (λ output is. (S, c.in_ok-scenario.ensures.found, is))
    (c.count_and_print.ensures.never_quiet never)

pub returns-clause-writes : goal.returns-clause-writes
returns-clause-writes g c =
    let S = c.in_ok-scenario.scenario in
    writes_more (IsFollowedOutput S) (IsFollowedRun (g.R.Read.remaining c.args.reader.now)) (g.W.Write.contents c.args.writer.now) (g.W.Write.contents c.count_and_print.new.writer) (g.W.Sink.failed c.count_and_print.new.writer)
    c.count_and_print.result (λ output is. (S, c.in_ok-scenario.ensures.found, is)) c.count_and_print.ensures.writes
