use Rattle.std.proofs.Common.{◌≡◌, List, Option, Err, ◌++◌, ℕ, ap, subst, ◌∙◌}
use Rattle.std.proofs.lemmas.Result.{err_from_is_err_and}
use Rattle.cmwq_types.specs.Scenario.{expand_lines}
use Rattle.cmwq_streams.specs.Blocks.{kept, sink}
use Rattle.cmwq_streams.specs.Sending.{HasSent, HasSentFront}
use Rattle.cmwq_play.specs.Commands.{Writes}
use Rattle.cmwq_play.proofs.CommandLemmas.{writes_block, writes_front}
use Rattle.cmwq_play.specs.Framing.{framed_text}
use Rattle.cmwq_play.proofs.framed.send_framed.Goals as goal

pub returns-in_err-tell_framed-clause-writes : goal.returns-in_err-tell_framed-clause-writes
returns-in_err-tell_framed-clause-writes g c =
    let contents = g.W.Write.contents in
    let a = c.args.session.now in
    let old = contents (sink c.reserve.new.self) in
    let mid = contents (sink c.tell_framed.new.session.lines) in
    let failed = g.W.Sink.failed (sink c.tell_framed.new.session.lines) in
    let error = c.in_err-tell_framed.field-0.0 in
    let text = framed_text g.T.Teller.told g.T.Teller.keeps g.T.Framed.opening g.T.Framed.closing c.args.teller.now a.scenario.now (g.M.Reads.state a.machine) (expand_lines c.args.lines.now) in
    let stopped = c.in_err-tell_framed.ensures in
    let sent = subst (λ (block : List ℕ). HasSentFront old mid (block ++ text)) (c.in_ok-reserve.ensures.kept ∙ c.requires.empty) stopped.sent in
    let p = err_from_is_err_and c.from_residual-in_err-tell_framed.result c.from_residual-in_err-tell_framed.ensures.1 in
    rw (p.1, p.2) (subst (λ (before : Option (List ℕ)). Writes (λ output. output ≡ text) before mid failed (Err error)) (ap contents c.in_ok-reserve.ensures.writer)
    (writes_front old mid failed error text sent stopped.write stopped.why))

pub returns-clause-writes : goal.returns-clause-writes
returns-clause-writes g c =
    let contents = g.W.Write.contents in
    let a = c.args.session.now in
    let old = contents (sink c.reserve.new.self) in
    let mid = contents (sink c.tell_framed.new.session.lines) in
    let last = contents (sink c.finish.new.self) in
    let left = kept c.tell_framed.new.session.lines in
    let text = framed_text g.T.Teller.told g.T.Teller.keeps g.T.Framed.opening g.T.Framed.closing c.args.teller.now a.scenario.now (g.M.Reads.state a.machine) (expand_lines c.args.lines.now) in
    let sent = subst (λ (block : List ℕ). HasSent old mid left (block ++ text)) (c.in_ok-reserve.ensures.kept ∙ c.requires.empty) c.in_ok-tell_framed.ensures.sent in
    subst (λ (before : Option (List ℕ)). Writes (λ output. output ≡ text) before last (g.W.Sink.failed (sink c.finish.new.self)) c.finish.result) (ap contents c.in_ok-reserve.ensures.writer)
    (writes_block old mid last left text (g.W.Sink.failed (sink c.finish.new.self)) c.finish.result sent
    c.finish.ensures.ok c.finish.ensures.err c.finish.ensures.failed c.finish.ensures.write)
