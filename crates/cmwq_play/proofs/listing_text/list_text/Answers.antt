use Rattle.std.proofs.Common.{◌≡◌, Err, ap}
use Rattle.std.proofs.lemmas.Result.{err_from_is_err_and}
use Rattle.cmwq_types.specs.Listing.{listing}
use Rattle.cmwq_play.specs.PlayTexts.{IsOutput, IsSpelled, IsTextFault}
use Rattle.cmwq_play.proofs.CommandLemmas.{answers_err, answers_ok, reads_err, reads_ok, sending_no_read, sending_outside, writes_err, writes_more}
use Rattle.cmwq_play.proofs.listing_text.list_text.Goals as goal

pub returns-in_err-scenario-clause-reads : goal.returns-in_err-scenario-clause-reads
returns-in_err-scenario-clause-reads g c =
    let p = err_from_is_err_and c.from_residual.result c.from_residual.ensures.1 in
    rw (p.1, p.2) (reads_err (g.R.Read.remaining c.args.reader.now) (g.R.Read.remaining c.read_text.new.reader) (g.R.Source.failed c.read_text.new.reader) c.in_err-scenario.field-0.0 c.in_err-scenario.ensures.reads)

pub returns-in_err-scenario-clause-answers : goal.returns-in_err-scenario-clause-answers
returns-in_err-scenario-clause-answers g c =
    let p = err_from_is_err_and c.from_residual.result c.from_residual.ensures.1 in
    rw (p.1, p.2) (answers_err IsSpelled (IsOutput listing) IsTextFault (g.R.Read.remaining c.args.reader.now) c.in_err-scenario.field-0.0 (λ bytes output is. (is.0, is.1)) c.in_err-scenario.ensures.answers)

pub returns-in_err-scenario-clause-writes : goal.returns-in_err-scenario-clause-writes
returns-in_err-scenario-clause-writes g c =
    let p = err_from_is_err_and c.from_residual.result c.from_residual.ensures.1 in
    rw (p.1, p.2) (writes_err (IsOutput listing (g.R.Read.remaining c.args.reader.now)) (g.W.Write.contents c.args.writer.now) (g.W.Sink.failed c.args.writer.now) c.in_err-scenario.field-0.0 c.requires.writer (λ is. c.in_err-scenario.ensures.no_write (ap Err is)))

pub returns-clause-reads : goal.returns-clause-reads
returns-clause-reads g c =
    reads_ok (g.R.Read.remaining c.args.reader.now) (g.R.Read.remaining c.read_text.new.reader) (g.R.Source.failed c.read_text.new.reader) c.in_ok-scenario.scenario c.write_listing.result
    (sending_no_read c.write_listing.result c.write_listing.ensures.why) c.in_ok-scenario.ensures.reads

pub returns-clause-answers : goal.returns-clause-answers
returns-clause-answers g c =
    answers_ok IsSpelled (IsOutput listing) IsTextFault (g.R.Read.remaining c.args.reader.now) c.in_ok-scenario.scenario c.write_listing.result
    (sending_outside c.write_listing.result c.write_listing.ensures.why) c.in_ok-scenario.ensures.answers

pub returns-clause-writes : goal.returns-clause-writes
returns-clause-writes g c =
    let input = g.R.Read.remaining c.args.reader.now in
    let S = c.in_ok-scenario.scenario in
    writes_more (λ output. output ≡ listing S) (IsOutput listing input) (g.W.Write.contents c.args.writer.now) (g.W.Write.contents c.write_listing.new.writer) (g.W.Sink.failed c.write_listing.new.writer)
    c.write_listing.result (λ output is. (S, c.in_ok-scenario.ensures.found, is)) c.write_listing.ensures.writes
