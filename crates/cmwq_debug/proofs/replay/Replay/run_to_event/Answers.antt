use Rattle.std.proofs.Common.{◌≡◌, ◌+◌, ℕ, None, arith, length, rules, subst, sym}
use Rattle.cmwq_debug.specs.Breaks.{lowest}
use Rattle.cmwq_debug.specs.Debugging.{is_event, reply_behind}
use Rattle.cmwq_debug.specs.Replaying.{HasGoneTo}
use Rattle.cmwq_debug.proofs.MovingLemmas.{event-there, gone-more, gone-none, no-event, no-event-more, no-event-yet, reply-is}
use Rattle.cmwq_debug.proofs.replay.Replay.run_to_event.Goals as goal

pub loop-step-init : goal.loop-step-init
loop-step-init g c =
    let start = c.args.self.now in
    let at : c.self.inside.position ≡ start.position = search rules in
    record {
      gone = gone-none start c.self.inside.position at;
      forward = omega (arith, at);
      none = subst (λ (n : ℕ). lowest (is_event start.scenario start.instrs start.position) n ≡ None) (sym at) (no-event-yet start.scenario start.instrs start.position);
    }

pub returns-then-not-is_silent : goal.returns-then-not-is_silent
returns-then-not-is_silent g c =
    let start = c.args.self.now in
    let k = c.loop-step._step in
    let so_far = c.loop-step.invariant in
    let reply : c.advance.result ≡ reply_behind start.scenario start.instrs k =
    reply-is c.loop-step.self start.scenario start.instrs k c.advance.result so_far.gone.scenario so_far.gone.instrs so_far.gone.position c.advance.ensures.reply
    in
    subst (λ (n : ℕ). HasGoneTo start n c.advance.new.self) (event-there start.scenario start.instrs start.position k c.advance.result so_far.forward (search rules) so_far.none reply (search rules))
    (gone-more start c.loop-step.self c.advance.new.self k so_far.forward so_far.gone c.advance.ensures.advanced)

pub loop-step-preserved : goal.loop-step-preserved
loop-step-preserved g c =
    let start = c.args.self.now in
    let k = c.loop-step._step in
    let so_far = c.loop-step.invariant in
    let reply : c.advance.result ≡ reply_behind start.scenario start.instrs k =
    reply-is c.loop-step.self start.scenario start.instrs k c.advance.result so_far.gone.scenario so_far.gone.instrs so_far.gone.position c.advance.ensures.reply
    in
    record {
      gone = gone-more start c.loop-step.self c.advance.new.self k so_far.forward so_far.gone c.advance.ensures.advanced;
      forward = omega (arith, so_far.forward);
      none = no-event-more start.scenario start.instrs start.position k c.advance.result so_far.none reply (search rules);
    }

pub returns : goal.returns
returns g c =
    let start = c.args.self.now in
    let k = c.loop-step._step in
    let at : k ≡ length start.instrs = search rules in
    subst (λ (n : ℕ). HasGoneTo start n c.loop-step.self) (no-event start.scenario start.instrs start.position k at c.loop-step.invariant.none) c.loop-step.invariant.gone
