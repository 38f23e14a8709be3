use Rattle.std.proofs.Common.{◌≡◌, List, ◌++◌, ℕ, Ok, Err, ap, ◌∙◌, subst, true}
use Rattle.std.proofs.lemmas.Result.{err_from_is_err_and}
use Rattle.cmwq_types.specs.Scenario.{expand_lines}
use Rattle.cmwq_table.specs.State.{State}
use Rattle.cmwq_table.specs.Table.{after_all}
use Rattle.cmwq_streams.specs.Blocks.{kept, sink}
use Rattle.cmwq_streams.specs.Sending.{HasSent, HasSentFront}
use Rattle.cmwq_play.specs.Session.{Issued, Stopped}
use Rattle.cmwq_play.specs.Telling.{kept_from, told_from}
use Rattle.cmwq_play.proofs.CommandLemmas.{writes_block, writes_front}
use Rattle.cmwq_explain.specs.Looking.{keeping, looker_after, run_end, telling, told_here}
use Rattle.cmwq_explain.proofs.LookingLemmas.{alike, stopped_more, then_issued, then_stopped}
use Rattle.cmwq_explain.proofs.looker.Looker.tell.Goals as goal

pub returns-in_err-issue_all-clause-writes : goal.returns-in_err-issue_all-clause-writes
returns-in_err-issue_all-clause-writes g c =
    let contents = g.W.Write.contents in
    let says = g.P.Sayer.says in
    let a = c.args.session.now in
    let b = c.issue_all.new.self in
    let S = a.scenario.now in
    let s = g.M.Reads.state a.machine in
    let instrs = expand_lines c.args.lines.now in
    let first = told_from (telling says) (keeping says) c.args.self.now S s instrs in
    let second = told_here says (kept_from (telling says) (keeping says) c.args.self.now S s instrs) S true (after_all S s instrs) in
    let stopped = stopped_more g.M.Reads.loaded g.M.Reads.state contents g.W.Sink.failed a b b s first second c.in_err-issue_all.field-0.0 c.in_err-issue_all.ensures.told in
    let sent = subst (λ (block : List ℕ). HasSentFront (contents (sink a.lines)) (contents (sink b.lines)) (block ++ (first ++ second))) c.requires.empty stopped.sent in
    let p = err_from_is_err_and c.from_residual.result c.from_residual.ensures.1 in
    rw (p.1, p.2) (writes_front (contents (sink a.lines)) (contents (sink b.lines)) (g.W.Sink.failed (sink b.lines)) c.in_err-issue_all.field-0.0 (first ++ second) sent stopped.write stopped.why)

pub returns-in_err-look-clause-writes : goal.returns-in_err-look-clause-writes
returns-in_err-look-clause-writes g c =
    let contents = g.W.Write.contents in
    let says = g.P.Sayer.says in
    let a = c.args.session.now in
    let b = c.issue_all.new.self in
    let d = c.look.new.session in
    let S = a.scenario.now in
    let s = g.M.Reads.state a.machine in
    let instrs = expand_lines c.args.lines.now in
    let first = told_from (telling says) (keeping says) c.args.self.now S s instrs in
    let keeper = kept_from (telling says) (keeping says) c.args.self.now S s instrs in
    let second = told_here says keeper S true (after_all S s instrs) in
    let issued = c.in_ok-issue_all.ensures.told in
    let error = c.in_err-look.field-0.0 in
    let same : told_here says c.issue_all.new.teller b.scenario.now true (g.M.Reads.state b.machine) ≡ second =
    alike (λ l T t. told_here says l T true t) c.issue_all.new.teller keeper b.scenario.now S (g.M.Reads.state b.machine) (after_all S s instrs) c.in_ok-issue_all.ensures.keeps issued.scenario issued.reached in
    let stopped = then_stopped g.M.Reads.loaded g.M.Reads.state contents g.W.Sink.failed a b d (after_all S s instrs) first second error issued
    (subst (λ (text : List ℕ). Stopped g.M.Reads.loaded g.M.Reads.state contents g.W.Sink.failed b d text error) same c.in_err-look.ensures.told) in
    let sent = subst (λ (block : List ℕ). HasSentFront (contents (sink a.lines)) (contents (sink d.lines)) (block ++ (first ++ second))) c.requires.empty stopped.sent in
    let p = err_from_is_err_and c.from_residual-in_err-look.result c.from_residual-in_err-look.ensures.1 in
    rw (p.1, p.2) (writes_front (contents (sink a.lines)) (contents (sink d.lines)) (g.W.Sink.failed (sink d.lines)) error (first ++ second) sent stopped.write stopped.why)

pub returns-in_err-finish-clause-writes : goal.returns-in_err-finish-clause-writes
returns-in_err-finish-clause-writes g c =
    let contents = g.W.Write.contents in
    let says = g.P.Sayer.says in
    let a = c.args.session.now in
    let b = c.issue_all.new.self in
    let d = c.look.new.session in
    let S = a.scenario.now in
    let s = g.M.Reads.state a.machine in
    let instrs = expand_lines c.args.lines.now in
    let first = told_from (telling says) (keeping says) c.args.self.now S s instrs in
    let keeper = kept_from (telling says) (keeping says) c.args.self.now S s instrs in
    let second = told_here says keeper S true (after_all S s instrs) in
    let issued = c.in_ok-issue_all.ensures.told in
    let same : told_here says c.issue_all.new.teller b.scenario.now true (g.M.Reads.state b.machine) ≡ second =
    alike (λ l T t. told_here says l T true t) c.issue_all.new.teller keeper b.scenario.now S (g.M.Reads.state b.machine) (after_all S s instrs) c.in_ok-issue_all.ensures.keeps issued.scenario issued.reached in
    let both = then_issued g.M.Reads.loaded g.M.Reads.state contents g.W.Sink.failed a b d (after_all S s instrs) first second (g.M.Reads.state b.machine) issued
    (subst (λ (text : List ℕ). Issued g.M.Reads.loaded g.M.Reads.state contents g.W.Sink.failed b d (g.M.Reads.state b.machine) text) same c.in_ok-look.ensures.told) in
    let sent = subst (λ (block : List ℕ). HasSent (contents (sink a.lines)) (contents (sink d.lines)) (kept d.lines) (block ++ (first ++ second))) c.requires.empty both.sent in
    let out = c.in_err-finish.ensures in
    let p = err_from_is_err_and c.from_residual-in_err-finish.result c.from_residual-in_err-finish.ensures.1 in
    rw (p.1, p.2) (writes_block (contents (sink a.lines)) (contents (sink d.lines)) (contents (sink c.finish.new.self)) (kept d.lines) (first ++ second) (g.W.Sink.failed (sink c.finish.new.self)) (Err c.in_err-finish.field-0.0) sent out.ok out.err out.failed out.write)

pub returns-clause-writes : goal.returns-clause-writes
returns-clause-writes g c =
    let contents = g.W.Write.contents in
    let says = g.P.Sayer.says in
    let a = c.args.session.now in
    let b = c.issue_all.new.self in
    let d = c.look.new.session in
    let S = a.scenario.now in
    let s = g.M.Reads.state a.machine in
    let instrs = expand_lines c.args.lines.now in
    let first = told_from (telling says) (keeping says) c.args.self.now S s instrs in
    let keeper = kept_from (telling says) (keeping says) c.args.self.now S s instrs in
    let second = told_here says keeper S true (after_all S s instrs) in
    let issued = c.in_ok-issue_all.ensures.told in
    let same : told_here says c.issue_all.new.teller b.scenario.now true (g.M.Reads.state b.machine) ≡ second =
    alike (λ l T t. told_here says l T true t) c.issue_all.new.teller keeper b.scenario.now S (g.M.Reads.state b.machine) (after_all S s instrs) c.in_ok-issue_all.ensures.keeps issued.scenario issued.reached in
    let both = then_issued g.M.Reads.loaded g.M.Reads.state contents g.W.Sink.failed a b d (after_all S s instrs) first second (g.M.Reads.state b.machine) issued
    (subst (λ (text : List ℕ). Issued g.M.Reads.loaded g.M.Reads.state contents g.W.Sink.failed b d (g.M.Reads.state b.machine) text) same c.in_ok-look.ensures.told) in
    let sent = subst (λ (block : List ℕ). HasSent (contents (sink a.lines)) (contents (sink d.lines)) (kept d.lines) (block ++ (first ++ second))) c.requires.empty both.sent in
    let out = c.in_ok-finish.ensures in
    writes_block (contents (sink a.lines)) (contents (sink d.lines)) (contents (sink c.finish.new.self)) (kept d.lines) (first ++ second) (g.W.Sink.failed (sink c.finish.new.self)) (Ok tt) sent out.ok out.err out.failed out.write

pub returns-clause-end : goal.returns-clause-end
returns-clause-end g c =
    let says = g.P.Sayer.says in
    let a = c.args.session.now in
    let b = c.issue_all.new.self in
    let S = a.scenario.now in
    let s = g.M.Reads.state a.machine in
    let instrs = expand_lines c.args.lines.now in
    let keeper = kept_from (telling says) (keeping says) c.args.self.now S s instrs in
    let issued = c.in_ok-issue_all.ensures.told in
    let looker : c.look.new.self ≡ looker_after says keeper S true (after_all S s instrs) =
    c.in_ok-look.ensures.looked
    ∙ alike (λ l T t. looker_after says l T true t) c.issue_all.new.teller keeper b.scenario.now S (g.M.Reads.state b.machine) (after_all S s instrs) c.in_ok-issue_all.ensures.keeps issued.scenario issued.reached in
    let time : c.now.result ≡ (after_all S s instrs).time = c.now.ensures ∙ ap (λ (t : State). t.time) (c.in_ok-look.ensures.told.reached ∙ issued.reached) in
    ap (λ l. run_end l (record (after_all S s instrs) { time = c.now.result })) looker
    ∙ ap (λ (n : ℕ). run_end (looker_after says keeper S true (after_all S s instrs)) (record (after_all S s instrs) { time = n })) time
