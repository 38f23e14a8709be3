use Rattle.std.proofs.Common.{rules, ◌≡◌, Err, IfErr, Ok, Result, ap, refl, List, ℕ, subst, sym}
use Rattle.std.proofs.lemmas.Result.{err_from_is_err_and}
use Rattle.cmwq_play.proofs.CommandLemmas.{err_is, keeps_same, reads_err, reads_ok, sending_no_read, sending_outside, writes_all, writes_err, writes_more}
use Rattle.cmwq_play.proofs.TextLemmas.{answers_unread, answers_well}
use Rattle.cmwq_settle.proofs.SettlingLemmas.{sending-other}
use Rattle.cmwq_streams.specs.Sending.{IsSendError}
use Rattle.cmwq_streams.specs.declared.error.PlayError.{PlayError}
use Rattle.cmwq_streams.specs.declared.error.PlayError.TheVariants.{NoMemory, Write}
use Rattle.cmwq_draw.specs.Drawn.{IsDrawing, IsDrawnText, IsUndrawable}
use Rattle.cmwq_draw.proofs.DrawnLemmas.{answers_undrawable, drawing-well, why-reads, why-writes}
use Rattle.cmwq_draw.proofs.drawing_run.draw.Goals as goal

-- writing all fails with the writer alone
sends : (r : Result (Unit {0}) PlayError) → IfErr r (λ error. error ≡ Write) → IfErr r (λ error. IsSendError error)
sends (Ok done) write = tt
sends (Err error) write = subst (λ (e : PlayError). IsSendError e) (sym write) tt

has_memory : (r : Result (Unit {0}) PlayError) → IfErr r (λ error. error ≡ Write) → r ≡ Err NoMemory → ⊥
has_memory (Ok done) write is = cc
has_memory (Err error) write is = cc

pub returns-in_err-scenario-clause-reads : goal.returns-in_err-scenario-clause-reads
returns-in_err-scenario-clause-reads g c =
    let p = err_from_is_err_and c.from_residual.result c.from_residual.ensures.1 in
    rw (p.1, p.2) (reads_err (g.R.Read.remaining c.args.reader.now) (g.R.Read.remaining c.read_text.new.reader) (g.R.Source.failed c.read_text.new.reader) c.in_err-scenario.field-0.0 c.in_err-scenario.ensures.reads)

pub returns-in_err-scenario-clause-answers : goal.returns-in_err-scenario-clause-answers
returns-in_err-scenario-clause-answers g c =
    let p = err_from_is_err_and c.from_residual.result c.from_residual.ensures.1 in
    rw (p.1, p.2) (answers_unread (IsDrawing c.args.drawing) (IsUndrawable c.args.drawing) (g.R.Read.remaining c.args.reader.now) c.in_err-scenario.field-0.0 c.in_err-scenario.ensures.answers)

pub returns-in_err-scenario-clause-writes : goal.returns-in_err-scenario-clause-writes
returns-in_err-scenario-clause-writes g c =
    let p = err_from_is_err_and c.from_residual.result c.from_residual.ensures.1 in
    rw (p.1, p.2) (writes_err (IsDrawnText c.args.drawing (g.R.Read.remaining c.args.reader.now)) (g.W.Write.contents c.args.writer.now) (g.W.Sink.failed c.args.writer.now) c.in_err-scenario.field-0.0 c.requires.writer (λ is. c.in_err-scenario.ensures.no_write (ap Err is)))

pub returns-in_err-scenario-clause-never_quiet : goal.returns-in_err-scenario-clause-never_quiet
returns-in_err-scenario-clause-never_quiet g c = λ is. keeps_same (g.W.Write.contents c.args.writer.now)

pub returns-in_err-scenario-clause-no_memory : goal.returns-in_err-scenario-clause-no_memory
returns-in_err-scenario-clause-no_memory g c = λ is. keeps_same (g.W.Write.contents c.args.writer.now)

pub returns-in_err-text-clause-reads : goal.returns-in_err-text-clause-reads
returns-in_err-text-clause-reads g c =
    let S = c.in_ok-scenario.scenario in
    let error = c.in_err-text.field-0.0 in
    let p = err_from_is_err_and c.from_residual-in_err-text.result c.from_residual-in_err-text.ensures.1 in
    rw (p.1, p.2) (reads_ok {B = Unit {0}} (g.R.Read.remaining c.args.reader.now) (g.R.Read.remaining c.read_text.new.reader) (g.R.Source.failed c.read_text.new.reader) S (Err error)
    (λ is. why-reads S c.args.drawing error c.in_err-text.ensures.why (err_is error _ (Err error) refl is)) c.in_ok-scenario.ensures.reads)

pub returns-in_err-text-clause-answers : goal.returns-in_err-text-clause-answers
returns-in_err-text-clause-answers g c =
    let S = c.in_ok-scenario.scenario in
    let p = err_from_is_err_and c.from_residual-in_err-text.result c.from_residual-in_err-text.ensures.1 in
    rw (p.1, p.2) (answers_undrawable S c.args.drawing S (g.R.Read.remaining c.args.reader.now) c.in_err-text.field-0.0 c.in_err-text.ensures.why
    c.in_ok-scenario.ensures.found c.in_ok-scenario.ensures.only c.in_ok-scenario.ensures.answers)

pub returns-in_err-text-clause-writes : goal.returns-in_err-text-clause-writes
returns-in_err-text-clause-writes g c =
    let S = c.in_ok-scenario.scenario in
    let error = c.in_err-text.field-0.0 in
    let p = err_from_is_err_and c.from_residual-in_err-text.result c.from_residual-in_err-text.ensures.1 in
    rw (p.1, p.2) (writes_err (IsDrawnText c.args.drawing (g.R.Read.remaining c.args.reader.now)) (g.W.Write.contents c.args.writer.now) (g.W.Sink.failed c.args.writer.now) error c.requires.writer (why-writes S c.args.drawing error c.in_err-text.ensures.why))

pub returns-in_err-text-clause-never_quiet : goal.returns-in_err-text-clause-never_quiet
returns-in_err-text-clause-never_quiet g c = λ is. keeps_same (g.W.Write.contents c.args.writer.now)

pub returns-in_err-text-clause-no_memory : goal.returns-in_err-text-clause-no_memory
returns-in_err-text-clause-no_memory g c = λ is. keeps_same (g.W.Write.contents c.args.writer.now)

pub returns-clause-reads : goal.returns-clause-reads
returns-clause-reads g c =
    reads_ok (g.R.Read.remaining c.args.reader.now) (g.R.Read.remaining c.read_text.new.reader) (g.R.Source.failed c.read_text.new.reader) c.in_ok-scenario.scenario c.put_all.result
    (sending_no_read c.put_all.result (sends c.put_all.result c.put_all.ensures.write)) c.in_ok-scenario.ensures.reads

pub returns-clause-answers : goal.returns-clause-answers
returns-clause-answers g c =
    let S = c.in_ok-scenario.scenario in
    answers_well (IsDrawing c.args.drawing) (IsUndrawable c.args.drawing) S S (g.R.Read.remaining c.args.reader.now) c.put_all.result
    (λ error told. drawing-well S c.args.drawing c.in_ok-text.text.items c.in_ok-text.ensures.drawing error told)
    (sending_outside c.put_all.result (sends c.put_all.result c.put_all.ensures.write)) c.in_ok-scenario.ensures.only c.in_ok-scenario.ensures.answers

pub returns-clause-writes : goal.returns-clause-writes
returns-clause-writes g c =
    let input = g.R.Read.remaining c.args.reader.now in
    let S = c.in_ok-scenario.scenario in
    let text = c.deref.result.now in
    let same : c.in_ok-text.text.items ≡ text = search rules in
    let drawn = subst (λ (it : List ℕ). IsDrawing c.args.drawing S it) same c.in_ok-text.ensures.drawing in
    writes_more (λ output. output ≡ text) (IsDrawnText c.args.drawing input) (g.W.Write.contents c.args.writer.now) (g.W.Write.contents c.put_all.new.writer) (g.W.Sink.failed c.put_all.new.writer)
    c.put_all.result (λ output is. (S, c.in_ok-scenario.ensures.found, subst (λ (it : List ℕ). IsDrawing c.args.drawing S it) (sym is) drawn)) (writes_all (g.W.Write.contents c.args.writer.now) (g.W.Write.contents c.put_all.new.writer) (g.W.Sink.failed c.put_all.new.writer) c.put_all.result text c.put_all.ensures.ok c.put_all.ensures.err c.put_all.ensures.failed c.put_all.ensures.write)

pub returns-clause-never_quiet : goal.returns-clause-never_quiet
returns-clause-never_quiet g c = λ is. elim (sending-other c.put_all.result (sends c.put_all.result c.put_all.ensures.write) is) [ ]

pub returns-clause-no_memory : goal.returns-clause-no_memory
returns-clause-no_memory g c = λ is. absurd (has_memory c.put_all.result c.put_all.ensures.write is)
