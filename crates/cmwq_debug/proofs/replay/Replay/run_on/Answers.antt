use Rattle.std.proofs.Common.{◌≡◌, ◌∙◌, ◌+◌, ℕ, None, Option, ap, arith, length, rules, subst, sym, take}
use Rattle.cmwq_table.specs.State.{State}
use Rattle.cmwq_table.specs.Table.{run}
use Rattle.cmwq_debug.specs.Breaks.{lowest}
use Rattle.cmwq_debug.specs.Debugging.{break_of, run_end, session_of, stop}
use Rattle.cmwq_debug.specs.Replaying.{HasGoneTo}
use Rattle.cmwq_debug.proofs.MovingLemmas.{gone-more, gone-none, matched, none-more, none-yet, said, stopped, unstopped}
use Rattle.cmwq_debug.proofs.replay.Replay.run_on.Goals as goal

pub loop-step-init : goal.loop-step-init
loop-step-init g c =
    let start = c.args.self.now in
    let d = session_of start.scenario start.instrs start.position c.args.breaks.now in
    let at : c.self.inside.position ≡ start.position = search rules in
    record {
      gone = gone-none start c.self.inside.position at;
      forward = omega (arith, at);
      none = subst (λ (n : ℕ). lowest (matched d) n ≡ None) (sym at) (none-yet d);
    }

pub returns-then-is_some-clause-gone : goal.returns-then-is_some-clause-gone
returns-then-is_some-clause-gone g c =
    let start = c.args.self.now in
    let S = start.scenario in
    let I = start.instrs in
    let k = c.loop-step._step in
    let so_far = c.loop-step.invariant in
    let d = session_of S I start.position c.args.breaks.now in
    let before : State = g.M.Reads.state c.self-in-loop-step.inside.machine in
    let after : State = g.M.Reads.state c.self-in-loop-step-2.inside.machine in
    let before_is : before ≡ run S (take k I) = search rules in
    let after_is : after ≡ run S (take (k + 1) I) = search rules in
    let by : c.said_by-by.result ≡ break_of d k = c.said_by-by.ensures.lowest ∙ said c.loop-step.self S I k start.position c.args.breaks.now c.sights-before.result before after c.advance-reply.result
    so_far.gone.scenario so_far.gone.instrs so_far.gone.position before_is after_is c.sights-before.ensures c.advance-reply.ensures.reply in
    let end : (k + 1, c.said_by-by.result) ≡ run_end d (stop d) = stopped d k c.said_by-by.result so_far.forward (search rules) so_far.none (search rules) by in
    subst (λ (n : ℕ). HasGoneTo start n c.advance-reply.new.self) (ap (λ (e : ℕ × Option ℕ). e.0) end)
    (gone-more start c.loop-step.self c.advance-reply.new.self k so_far.forward so_far.gone c.advance-reply.ensures.advanced)

pub returns-then-is_some-clause-by : goal.returns-then-is_some-clause-by
returns-then-is_some-clause-by g c =
    let start = c.args.self.now in
    let S = start.scenario in
    let I = start.instrs in
    let k = c.loop-step._step in
    let so_far = c.loop-step.invariant in
    let d = session_of S I start.position c.args.breaks.now in
    let before : State = g.M.Reads.state c.self-in-loop-step.inside.machine in
    let after : State = g.M.Reads.state c.self-in-loop-step-2.inside.machine in
    let before_is : before ≡ run S (take k I) = search rules in
    let after_is : after ≡ run S (take (k + 1) I) = search rules in
    let by : c.said_by-by.result ≡ break_of d k = c.said_by-by.ensures.lowest ∙ said c.loop-step.self S I k start.position c.args.breaks.now c.sights-before.result before after c.advance-reply.result
    so_far.gone.scenario so_far.gone.instrs so_far.gone.position before_is after_is c.sights-before.ensures c.advance-reply.ensures.reply in
    ap (λ (e : ℕ × Option ℕ). e.1) (stopped d k c.said_by-by.result so_far.forward (search rules) so_far.none (search rules) by)

pub loop-step-preserved : goal.loop-step-preserved
loop-step-preserved g c =
    let start = c.args.self.now in
    let S = start.scenario in
    let I = start.instrs in
    let k = c.loop-step._step in
    let so_far = c.loop-step.invariant in
    let d = session_of S I start.position c.args.breaks.now in
    let before : State = g.M.Reads.state c.self-in-loop-step.inside.machine in
    let after : State = g.M.Reads.state c.self-in-loop-step-2.inside.machine in
    let before_is : before ≡ run S (take k I) = search rules in
    let after_is : after ≡ run S (take (k + 1) I) = search rules in
    let by : c.said_by-by.result ≡ break_of d k = c.said_by-by.ensures.lowest ∙ said c.loop-step.self S I k start.position c.args.breaks.now c.sights-before.result before after c.advance-reply.result
    so_far.gone.scenario so_far.gone.instrs so_far.gone.position before_is after_is c.sights-before.ensures c.advance-reply.ensures.reply in
    record {
      gone = gone-more start c.loop-step.self c.advance-reply.new.self k so_far.forward so_far.gone c.advance-reply.ensures.advanced;
      forward = omega (arith, so_far.forward);
      none = none-more d k c.said_by-by.result so_far.none (search rules) by;
    }

pub returns-clause-gone : goal.returns-clause-gone
returns-clause-gone g c =
    let start = c.args.self.now in
    let d = session_of start.scenario start.instrs start.position c.args.breaks.now in
    let k = c.loop-step._step in
    let at : k ≡ length d.instrs = search rules in
    subst (λ (n : ℕ). HasGoneTo start n c.loop-step.self) (ap (λ (e : ℕ × Option ℕ). e.0) (unstopped d k at c.loop-step.invariant.none)) c.loop-step.invariant.gone

pub returns-clause-by : goal.returns-clause-by
returns-clause-by g c =
    let start = c.args.self.now in
    let d = session_of start.scenario start.instrs start.position c.args.breaks.now in
    let k = c.loop-step._step in
    let at : k ≡ length d.instrs = search rules in
    ap (λ (e : ℕ × Option ℕ). e.1) (unstopped d k at c.loop-step.invariant.none)
