use Rattle.std.proofs.Common.{◌≡◌, List, ◌++◌, ℕ, ap, ◌∙◌, subst}
use Rattle.std.proofs.lemmas.Result.{err_from_is_err_and}
use Rattle.cmwq_types.specs.Contents.{ScenarioContents}
use Rattle.cmwq_types.specs.Scenario.{expand_lines}
use Rattle.cmwq_table.specs.State.{State}
use Rattle.cmwq_table.specs.Table.{after_all}
use Rattle.cmwq_streams.specs.Blocks.{kept, sink}
use Rattle.cmwq_streams.specs.Sending.{HasSent, HasSentFront}
use Rattle.cmwq_play.specs.Session.{Issued, Stopped}
use Rattle.cmwq_play.specs.Telling.{kept_from, told_from}
use Rattle.cmwq_play.proofs.CommandLemmas.{writes_block, writes_front}
use Rattle.cmwq_times.specs.Clerking.{clerk_ends, clerk_keeps, clerk_tells}
use Rattle.cmwq_times.specs.declared.clerk.Clerk.{Clerk}
use Rattle.cmwq_times.proofs.ClerkLemmas.{issued-then, stopped-before, stopped-then}
use Rattle.cmwq_times.proofs.clerk.Clerk.tell.Goals as goal

same-ends : (k l : Clerk) (S T : ScenarioContents) (s t : State) → k ≡ l → S ≡ T → s ≡ t → clerk_ends k S s ≡ clerk_ends l T t
same-ends k l S T s t a b c = ap (λ (k : Clerk). clerk_ends k S s) a ∙ ap (λ (S : ScenarioContents). clerk_ends l S s) b ∙ ap (clerk_ends l T) c

pub returns-in_err-issue_all-clause-writes : goal.returns-in_err-issue_all-clause-writes
returns-in_err-issue_all-clause-writes g c =
    let contents = g.W.Write.contents in
    let a = c.args.session.now in
    let b = c.issue_all.new.self in
    let S = a.scenario.now in
    let s = g.M.Reads.state a.machine in
    let instrs = expand_lines c.args.lines.now in
    let first = told_from clerk_tells clerk_keeps c.args.self.now S s instrs in
    let second = clerk_ends (kept_from clerk_tells clerk_keeps c.args.self.now S s instrs) S (after_all S s instrs) in
    let stopped = stopped-before g.M.Reads.loaded g.M.Reads.state contents g.W.Sink.failed a b b s first second c.in_err-issue_all.field-0.0 c.in_err-issue_all.ensures.told in
    let sent = subst (λ (block : List ℕ). HasSentFront (contents (sink a.lines)) (contents (sink b.lines)) (block ++ (first ++ second))) c.requires.empty stopped.sent in
    let p = err_from_is_err_and c.from_residual.result c.from_residual.ensures.1 in
    rw (p.1, p.2) (writes_front (contents (sink a.lines)) (contents (sink b.lines)) (g.W.Sink.failed (sink b.lines)) c.in_err-issue_all.field-0.0 (first ++ second) sent stopped.write stopped.why)

pub returns-in_err-tell_end-clause-writes : goal.returns-in_err-tell_end-clause-writes
returns-in_err-tell_end-clause-writes g c =
    let contents = g.W.Write.contents in
    let a = c.args.session.now in
    let b = c.issue_all.new.self in
    let d = c.tell_end.new.session in
    let S = a.scenario.now in
    let s = g.M.Reads.state a.machine in
    let instrs = expand_lines c.args.lines.now in
    let first = told_from clerk_tells clerk_keeps c.args.self.now S s instrs in
    let keeper = kept_from clerk_tells clerk_keeps c.args.self.now S s instrs in
    let second = clerk_ends keeper S (after_all S s instrs) in
    let issued = c.in_ok-issue_all.ensures.told in
    let error = c.in_err-tell_end.field-0.0 in
    let same : clerk_ends c.issue_all.new.teller b.scenario.now (g.M.Reads.state b.machine) ≡ second =
    same-ends c.issue_all.new.teller keeper b.scenario.now S (g.M.Reads.state b.machine) (after_all S s instrs) c.in_ok-issue_all.ensures.keeps issued.scenario issued.reached in
    let stopped = stopped-then g.M.Reads.loaded g.M.Reads.state contents g.W.Sink.failed a b d (after_all S s instrs) first second error issued
    (subst (λ (text : List ℕ). Stopped g.M.Reads.loaded g.M.Reads.state contents g.W.Sink.failed b d text error) same c.in_err-tell_end.ensures.told) in
    let sent = subst (λ (block : List ℕ). HasSentFront (contents (sink a.lines)) (contents (sink d.lines)) (block ++ (first ++ second))) c.requires.empty stopped.sent in
    let p = err_from_is_err_and c.from_residual-in_err-tell_end.result c.from_residual-in_err-tell_end.ensures.1 in
    rw (p.1, p.2) (writes_front (contents (sink a.lines)) (contents (sink d.lines)) (g.W.Sink.failed (sink d.lines)) error (first ++ second) sent stopped.write stopped.why)

pub returns-clause-writes : goal.returns-clause-writes
returns-clause-writes g c =
    let contents = g.W.Write.contents in
    let a = c.args.session.now in
    let b = c.issue_all.new.self in
    let d = c.tell_end.new.session in
    let S = a.scenario.now in
    let s = g.M.Reads.state a.machine in
    let instrs = expand_lines c.args.lines.now in
    let first = told_from clerk_tells clerk_keeps c.args.self.now S s instrs in
    let keeper = kept_from clerk_tells clerk_keeps c.args.self.now S s instrs in
    let second = clerk_ends keeper S (after_all S s instrs) in
    let issued = c.in_ok-issue_all.ensures.told in
    let same : clerk_ends c.issue_all.new.teller b.scenario.now (g.M.Reads.state b.machine) ≡ second =
    same-ends c.issue_all.new.teller keeper b.scenario.now S (g.M.Reads.state b.machine) (after_all S s instrs) c.in_ok-issue_all.ensures.keeps issued.scenario issued.reached in
    let both = issued-then g.M.Reads.loaded g.M.Reads.state contents g.W.Sink.failed a b d (after_all S s instrs) first second (g.M.Reads.state b.machine) issued
    (subst (λ (text : List ℕ). Issued g.M.Reads.loaded g.M.Reads.state contents g.W.Sink.failed b d (g.M.Reads.state b.machine) text) same c.in_ok-tell_end.ensures.told) in
    let sent = subst (λ (block : List ℕ). HasSent (contents (sink a.lines)) (contents (sink d.lines)) (kept d.lines) (block ++ (first ++ second))) c.requires.empty both.sent in
    let out = c.finish.ensures in
    writes_block (contents (sink a.lines)) (contents (sink d.lines)) (contents (sink c.finish.new.self)) (kept d.lines) (first ++ second) (g.W.Sink.failed (sink c.finish.new.self)) c.finish.result sent out.ok out.err out.failed out.write
