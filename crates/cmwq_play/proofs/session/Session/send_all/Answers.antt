use Rattle.std.proofs.Common.{◌≡◌, List, Option, ◌++◌, ℕ, ap, subst, ◌∙◌}
use Rattle.cmwq_types.specs.Scenario.{expand_lines}
use Rattle.cmwq_streams.specs.Blocks.{kept, sink}
use Rattle.cmwq_streams.specs.Sending.{HasSent}
use Rattle.cmwq_play.specs.Commands.{Writes}
use Rattle.cmwq_play.specs.Telling.{told_from}
use Rattle.cmwq_play.proofs.CommandLemmas.{writes_block}
use Rattle.cmwq_play.proofs.session.Session.send_all.Goals as goal

pub returns-clause-writes : goal.returns-clause-writes
returns-clause-writes g c =
    let contents = g.W.Write.contents in
    let old = contents (sink c.reserve.new.self) in
    let mid = contents (sink c.issue_all.new.self.lines) in
    let last = contents (sink c.finish.new.self) in
    let left = kept c.issue_all.new.self.lines in
    let text = told_from g.T.Teller.told g.T.Teller.keeps c.args.teller.now c.args.self.now.scenario.now (g.M.Reads.state c.args.self.now.machine) (expand_lines c.args.lines.now) in
    let sent = subst (λ (block : List ℕ). HasSent old mid left (block ++ text)) (c.in_ok-reserve.ensures.kept ∙ c.requires.empty) c.in_ok-issue_all.ensures.told.sent in
    subst (λ (before : Option (List ℕ)). Writes (λ output. output ≡ text) before last (g.W.Sink.failed (sink c.finish.new.self)) c.finish.result) (ap contents c.in_ok-reserve.ensures.writer)
    (writes_block old mid last left text (g.W.Sink.failed (sink c.finish.new.self)) c.finish.result sent
    c.finish.ensures.ok c.finish.ensures.err c.finish.ensures.failed c.finish.ensures.write)
