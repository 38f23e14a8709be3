use Rattle.std.proofs.Common.{Err, None, ap, refl}
use Rattle.std.proofs.lemmas.Result.{err_from_is_err_and}
use Rattle.cmwq_play.proofs.CommandLemmas.{err_is, keeps_same, reads_err, reads_ok, sending_no_read, sending_outside, writes_err, writes_more}
use Rattle.cmwq_play.proofs.TextLemmas.{answers_unread, answers_well}
use Rattle.cmwq_settle.specs.Settled.{IsUnsettledIf}
use Rattle.cmwq_tell.specs.RunTold.{IsToldIf, IsToldRun}
use Rattle.cmwq_tell.proofs.AnswerLemmas.{answers_untold, sending-other, told-well, why-reads, why-writes, writes_told}
use Rattle.cmwq_tell.proofs.told_run.run_told.Goals as goal

pub returns-in_err-scenario-clause-reads : goal.returns-in_err-scenario-clause-reads
returns-in_err-scenario-clause-reads g c =
    let p = err_from_is_err_and c.from_residual.result c.from_residual.ensures.1 in
    rw (p.1, p.2) (reads_err (g.R.Read.remaining c.args.reader.now) (g.R.Read.remaining c.read_text.new.reader) (g.R.Source.failed c.read_text.new.reader) c.in_err-scenario.field-0.0 c.in_err-scenario.ensures.reads)

pub returns-in_err-scenario-clause-answers : goal.returns-in_err-scenario-clause-answers
returns-in_err-scenario-clause-answers g c =
    let p = err_from_is_err_and c.from_residual.result c.from_residual.ensures.1 in
    rw (p.1, p.2) (answers_unread (IsToldIf c.args.settle) (IsUnsettledIf c.args.settle) (g.R.Read.remaining c.args.reader.now) c.in_err-scenario.field-0.0 c.in_err-scenario.ensures.answers)

pub returns-in_err-scenario-clause-writes : goal.returns-in_err-scenario-clause-writes
returns-in_err-scenario-clause-writes g c =
    let p = err_from_is_err_and c.from_residual.result c.from_residual.ensures.1 in
    rw (p.1, p.2) (writes_err (IsToldRun c.args.settle (g.R.Read.remaining c.args.reader.now)) (g.W.Write.contents c.args.writer.now) (g.W.Sink.failed c.args.writer.now) c.in_err-scenario.field-0.0 c.requires.writer (λ is. c.in_err-scenario.ensures.no_write (ap Err is)))

pub returns-in_err-scenario-clause-never_quiet : goal.returns-in_err-scenario-clause-never_quiet
returns-in_err-scenario-clause-never_quiet g c = λ is. keeps_same (g.W.Write.contents c.args.writer.now)

pub returns-in_err-settled-clause-reads : goal.returns-in_err-settled-clause-reads
returns-in_err-settled-clause-reads g c =
    let S = c.in_ok-scenario.scenario in
    let error = c.in_err-settled.field-0.0 in
    let p = err_from_is_err_and c.from_residual-in_err-settled.result c.from_residual-in_err-settled.ensures.1 in
    rw (p.1, p.2) (reads_ok {B = Unit {0}} (g.R.Read.remaining c.args.reader.now) (g.R.Read.remaining c.read_text.new.reader) (g.R.Source.failed c.read_text.new.reader) S (Err error)
    (λ is. why-reads c.args.settle S error c.in_err-settled.ensures.why (err_is error _ (Err error) refl is)) c.in_ok-scenario.ensures.reads)

pub returns-in_err-settled-clause-answers : goal.returns-in_err-settled-clause-answers
returns-in_err-settled-clause-answers g c =
    let S = c.in_ok-scenario.scenario in
    let p = err_from_is_err_and c.from_residual-in_err-settled.result c.from_residual-in_err-settled.ensures.1 in
    rw (p.1, p.2) (answers_untold c.args.settle S S (g.R.Read.remaining c.args.reader.now) c.in_err-settled.field-0.0 c.in_err-settled.ensures.why
    c.in_ok-scenario.ensures.found c.in_ok-scenario.ensures.only c.in_ok-scenario.ensures.answers)

pub returns-in_err-settled-clause-writes : goal.returns-in_err-settled-clause-writes
returns-in_err-settled-clause-writes g c =
    let S = c.in_ok-scenario.scenario in
    let error = c.in_err-settled.field-0.0 in
    let p = err_from_is_err_and c.from_residual-in_err-settled.result c.from_residual-in_err-settled.ensures.1 in
    rw (p.1, p.2) (writes_err (IsToldRun c.args.settle (g.R.Read.remaining c.args.reader.now)) (g.W.Write.contents c.args.writer.now) (g.W.Sink.failed c.args.writer.now) error c.requires.writer (why-writes c.args.settle S error c.in_err-settled.ensures.why))

pub returns-in_err-settled-clause-never_quiet : goal.returns-in_err-settled-clause-never_quiet
returns-in_err-settled-clause-never_quiet g c = λ is. keeps_same (g.W.Write.contents c.args.writer.now)

pub returns-clause-reads : goal.returns-clause-reads
returns-clause-reads g c =
    reads_ok (g.R.Read.remaining c.args.reader.now) (g.R.Read.remaining c.read_text.new.reader) (g.R.Source.failed c.read_text.new.reader) c.in_ok-scenario.scenario c.load_and_frame.result
    (sending_no_read c.load_and_frame.result c.load_and_frame.ensures.why) c.in_ok-scenario.ensures.reads

pub returns-clause-answers : goal.returns-clause-answers
returns-clause-answers g c =
    let S = c.in_ok-scenario.scenario in
    answers_well (IsToldIf c.args.settle) (IsUnsettledIf c.args.settle) S S (g.R.Read.remaining c.args.reader.now) c.load_and_frame.result
    (λ error told. told-well c.args.settle S c.in_ok-settled.settled c.in_ok-settled.ensures.settled error told)
    (sending_outside c.load_and_frame.result c.load_and_frame.ensures.why) c.in_ok-scenario.ensures.only c.in_ok-scenario.ensures.answers

pub returns-clause-writes : goal.returns-clause-writes
returns-clause-writes g c =
    let S = c.in_ok-scenario.scenario in
    let before = g.W.Write.contents c.args.writer.now in
    let after = g.W.Write.contents c.load_and_frame.new.writer in
    let failed = g.W.Sink.failed c.load_and_frame.new.writer in
    writes_more (IsToldIf c.args.settle S) (IsToldRun c.args.settle (g.R.Read.remaining c.args.reader.now)) before after failed c.load_and_frame.result
    (λ output is. (S, c.in_ok-scenario.ensures.found, is))
    (writes_told c.args.settle S (record { alloc = c.args.alloc; position = 0; held = None }) c.in_ok-settled.settled refl refl c.in_ok-settled.ensures.settled before after failed c.load_and_frame.result c.load_and_frame.ensures.writes)

pub returns-clause-never_quiet : goal.returns-clause-never_quiet
returns-clause-never_quiet g c = λ is. elim (sending-other c.load_and_frame.result c.load_and_frame.ensures.why is) [ ]
