use Rattle.std.proofs.Common.{◌≡◌, Err, ap, refl}
use Rattle.std.proofs.lemmas.Result.{err_from_is_err_and}
use Rattle.cmwq_types.specs.Listing.{listing}
use Rattle.cmwq_play.proofs.CommandLemmas.{err_is, keeps_same, reads_err, reads_ok, sending_no_read, sending_outside, writes_err, writes_more}
use Rattle.cmwq_play.proofs.TextLemmas.{answers_unread, answers_well}
use Rattle.cmwq_settle.specs.Settled.{IsUnsettleable}
use Rattle.cmwq_settle.specs.Settling.{IsSettledListing, IsSettledText}
use Rattle.cmwq_settle.proofs.AnswerLemmas.{settled_scenario-well}
use Rattle.cmwq_settle.proofs.SettlingLemmas.{answers_unsettleable, sending-other, why-reads, why-writes}
use Rattle.cmwq_settle.proofs.settling.settle_text.Goals as goal

pub returns-in_err-scenario-clause-reads : goal.returns-in_err-scenario-clause-reads
returns-in_err-scenario-clause-reads g c =
    let p = err_from_is_err_and c.from_residual.result c.from_residual.ensures.1 in
    rw (p.1, p.2) (reads_err (g.R.Read.remaining c.args.reader.now) (g.R.Read.remaining c.read_text.new.reader) (g.R.Source.failed c.read_text.new.reader) c.in_err-scenario.field-0.0 c.in_err-scenario.ensures.reads)

pub returns-in_err-scenario-clause-answers : goal.returns-in_err-scenario-clause-answers
returns-in_err-scenario-clause-answers g c =
    let p = err_from_is_err_and c.from_residual.result c.from_residual.ensures.1 in
    rw (p.1, p.2) (answers_unread IsSettledListing IsUnsettleable (g.R.Read.remaining c.args.reader.now) c.in_err-scenario.field-0.0 c.in_err-scenario.ensures.answers)

pub returns-in_err-scenario-clause-writes : goal.returns-in_err-scenario-clause-writes
returns-in_err-scenario-clause-writes g c =
    let p = err_from_is_err_and c.from_residual.result c.from_residual.ensures.1 in
    rw (p.1, p.2) (writes_err (IsSettledText (g.R.Read.remaining c.args.reader.now)) (g.W.Write.contents c.args.writer.now) (g.W.Sink.failed c.args.writer.now) c.in_err-scenario.field-0.0 c.requires.writer (λ is. c.in_err-scenario.ensures.no_write (ap Err is)))

pub returns-in_err-scenario-clause-never_quiet : goal.returns-in_err-scenario-clause-never_quiet
returns-in_err-scenario-clause-never_quiet g c = λ is. keeps_same (g.W.Write.contents c.args.writer.now)

pub returns-in_err-scenario-clause-no_memory : goal.returns-in_err-scenario-clause-no_memory
returns-in_err-scenario-clause-no_memory g c = λ is. keeps_same (g.W.Write.contents c.args.writer.now)

pub returns-in_err-settled-clause-reads : goal.returns-in_err-settled-clause-reads
returns-in_err-settled-clause-reads g c =
    let S = c.in_ok-scenario.scenario in
    let error = c.in_err-settled.field-0.0 in
    let p = err_from_is_err_and c.from_residual-in_err-settled.result c.from_residual-in_err-settled.ensures.1 in
    rw (p.1, p.2) (reads_ok {B = Unit {0}} (g.R.Read.remaining c.args.reader.now) (g.R.Read.remaining c.read_text.new.reader) (g.R.Source.failed c.read_text.new.reader) S (Err error)
    (λ is. why-reads S error c.in_err-settled.ensures.why (err_is error _ (Err error) refl is)) c.in_ok-scenario.ensures.reads)

pub returns-in_err-settled-clause-answers : goal.returns-in_err-settled-clause-answers
returns-in_err-settled-clause-answers g c =
    let S = c.in_ok-scenario.scenario in
    let p = err_from_is_err_and c.from_residual-in_err-settled.result c.from_residual-in_err-settled.ensures.1 in
    rw (p.1, p.2) (answers_unsettleable S S (g.R.Read.remaining c.args.reader.now) c.in_err-settled.field-0.0 c.in_err-settled.ensures.why
    c.in_ok-scenario.ensures.found c.in_ok-scenario.ensures.only c.in_ok-scenario.ensures.answers)

pub returns-in_err-settled-clause-writes : goal.returns-in_err-settled-clause-writes
returns-in_err-settled-clause-writes g c =
    let S = c.in_ok-scenario.scenario in
    let error = c.in_err-settled.field-0.0 in
    let p = err_from_is_err_and c.from_residual-in_err-settled.result c.from_residual-in_err-settled.ensures.1 in
    rw (p.1, p.2) (writes_err (IsSettledText (g.R.Read.remaining c.args.reader.now)) (g.W.Write.contents c.args.writer.now) (g.W.Sink.failed c.args.writer.now) error c.requires.writer (why-writes S error c.in_err-settled.ensures.why))

pub returns-in_err-settled-clause-never_quiet : goal.returns-in_err-settled-clause-never_quiet
returns-in_err-settled-clause-never_quiet g c = λ is. keeps_same (g.W.Write.contents c.args.writer.now)

pub returns-in_err-settled-clause-no_memory : goal.returns-in_err-settled-clause-no_memory
returns-in_err-settled-clause-no_memory g c = λ is. keeps_same (g.W.Write.contents c.args.writer.now)

pub returns-clause-reads : goal.returns-clause-reads
returns-clause-reads g c =
    reads_ok (g.R.Read.remaining c.args.reader.now) (g.R.Read.remaining c.read_text.new.reader) (g.R.Source.failed c.read_text.new.reader) c.in_ok-scenario.scenario c.write_listing.result
    (sending_no_read c.write_listing.result c.write_listing.ensures.why) c.in_ok-scenario.ensures.reads

pub returns-clause-answers : goal.returns-clause-answers
returns-clause-answers g c =
    let S = c.in_ok-scenario.scenario in
    answers_well IsSettledListing IsUnsettleable S S (g.R.Read.remaining c.args.reader.now) c.write_listing.result
    (λ error told. settled_scenario-well S c.in_ok-settled.settled c.in_ok-settled.ensures.settled error told)
    (sending_outside c.write_listing.result c.write_listing.ensures.why) c.in_ok-scenario.ensures.only c.in_ok-scenario.ensures.answers

pub returns-clause-writes : goal.returns-clause-writes
returns-clause-writes g c =
    let input = g.R.Read.remaining c.args.reader.now in
    let S = c.in_ok-scenario.scenario in
    let T = c.in_ok-settled.settled in
    writes_more (λ output. output ≡ listing T) (IsSettledText input) (g.W.Write.contents c.args.writer.now) (g.W.Write.contents c.write_listing.new.writer) (g.W.Sink.failed c.write_listing.new.writer)
    c.write_listing.result (λ output is. (S, c.in_ok-scenario.ensures.found, (T, c.in_ok-settled.ensures.settled, is))) c.write_listing.ensures.writes

pub returns-clause-never_quiet : goal.returns-clause-never_quiet
returns-clause-never_quiet g c = λ is. elim (sending-other c.write_listing.result c.write_listing.ensures.why is) [ ]

pub returns-clause-no_memory : goal.returns-clause-no_memory
returns-clause-no_memory g c = c.write_listing.ensures.no_memory
