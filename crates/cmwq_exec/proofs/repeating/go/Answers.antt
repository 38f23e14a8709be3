use Rattle.std.proofs.Common.{◌≡◌, ◌+◌, ◌-◌, ◌≤◌, true, arith, ap, subst}
use Rattle.cmwq_types.specs.declared.reply.Refusal.TheVariants.{Spent}
use Rattle.cmwq_types.specs.declared.reply.Reply.{Reply}
use Rattle.cmwq_types.specs.declared.reply.Reply.TheVariants.{Done, Refused}
use Rattle.cmwq_table.specs.Events.{is_silent}
use Rattle.cmwq_table.specs.Ready.{Loaded}
use Rattle.cmwq_exec.specs.Advances.{HasAdvanced}
use Rattle.cmwq_exec.specs.Answered.{event_reply, next_reply}
use Rattle.cmwq_exec.proofs.AdvanceLemmas.{advanced-kept, advanced-on, advanced-turn, gone-so-far, silent-all}
use Rattle.cmwq_exec.proofs.NextLemmas.{refused-advances}
use Rattle.cmwq_exec.proofs.repeating.go.Goals as goal

pub returns-then-left-eq0-clause-gone : goal.returns-then-left-eq0-clause-gone
returns-then-left-eq0-clause-gone g c =
    let begun = c.args.going.now in
    let at = c.loop-left.going in
    let was = c.loop-left.invariant in
    let count = c.loop-left.count in
    let few = was.few in
    let spent : at.scenario.steps ≤ at.state.spent = omega (arith, few, was.left, c.if-left-eq0.true) in
    let refused = refused-advances at (c.args.most - count) (omega (arith, few)) spent in
    gone-so-far begun at c.args.most (count + 1) (Refused Spent)
    (advanced-on begun at at c.args.most count 1 (Refused Spent) was.state was.silent was.few refused)
    (λ quiet. absurd (let spoken = quiet in cc))

pub returns-in-Some-clause-gone : goal.returns-in-Some-clause-gone
returns-in-Some-clause-gone g c =
    let begun = c.args.going.now in
    let at = c.loop-left.going in
    let was = c.loop-left.invariant in
    let count = c.loop-left.count in
    let more = c.advance-more.result.0 in
    let new = c.advance-more.new.going in
    let reply = next_reply c.advance-more.result.1 in
    let low : c.loop-left.left ≤ c.args.most - count = omega (arith, was.left) in
    let told : reply ≡ event_reply c.in-Some.happened = ap next_reply c.in-Some.is in
    let advanced = advanced-turn begun at new c.args.most count c.loop-left.left more reply was.state was.silent was.few low c.advance-more.ensures.advanced in
    gone-so-far begun new c.args.most (count + more) (event_reply c.in-Some.happened)
    (subst (λ (r : Reply). HasAdvanced begun c.args.most (count + more) new r) told advanced)
    (λ quiet. absurd (let spoken = quiet in cc))

pub returns-in-Some-clause-kept : goal.returns-in-Some-clause-kept
returns-in-Some-clause-kept g c =
    let begun = c.args.going.now in
    let at = c.loop-left.going in
    let was = c.loop-left.invariant in
    let count = c.loop-left.count in
    let more = c.advance-more.result.0 in
    let new = c.advance-more.new.going in
    let reply = next_reply c.advance-more.result.1 in
    let low : c.loop-left.left ≤ c.args.most - count = omega (arith, was.left) in
    advanced-kept begun new c.args.most (count + more) reply c.requires.kept
    (advanced-turn begun at new c.args.most count c.loop-left.left more reply was.state was.silent was.few low c.advance-more.ensures.advanced)

pub returns-then-count-most-clause-gone : goal.returns-then-count-most-clause-gone
returns-then-count-most-clause-gone g c =
    let begun = c.args.going.now in
    let at = c.loop-left.going in
    let was = c.loop-left.invariant in
    let count = c.loop-left.count in
    let more = c.advance-more.result.0 in
    let new = c.advance-more.new.going in
    let reply = next_reply c.advance-more.result.1 in
    let low : c.loop-left.left ≤ c.args.most - count = omega (arith, was.left) in
    let told : reply ≡ Done = ap next_reply c.in_default.is in
    let advanced = advanced-turn begun at new c.args.most count c.loop-left.left more reply was.state was.silent was.few low c.advance-more.ensures.advanced in
    gone-so-far begun new c.args.most (count + more) Done
    (subst (λ (r : Reply). HasAdvanced begun c.args.most (count + more) new r) told advanced)
    (λ quiet. c.if-count-most.true)

pub returns-then-count-most-clause-kept : goal.returns-then-count-most-clause-kept
returns-then-count-most-clause-kept g c =
    let begun = c.args.going.now in
    let at = c.loop-left.going in
    let was = c.loop-left.invariant in
    let count = c.loop-left.count in
    let more = c.advance-more.result.0 in
    let new = c.advance-more.new.going in
    let reply = next_reply c.advance-more.result.1 in
    let low : c.loop-left.left ≤ c.args.most - count = omega (arith, was.left) in
    advanced-kept begun new c.args.most (count + more) reply c.requires.kept
    (advanced-turn begun at new c.args.most count c.loop-left.left more reply was.state was.silent was.few low c.advance-more.ensures.advanced)

pub loop-left-preserved : goal.loop-left-preserved
loop-left-preserved g c =
    let begun = c.args.going.now in
    let at = c.loop-left.going in
    let was = c.loop-left.invariant in
    let count = c.loop-left.count in
    let more = c.advance-more.result.0 in
    let new = c.advance-more.new.going in
    let reply = next_reply c.advance-more.result.1 in
    let low : c.loop-left.left ≤ c.args.most - count = omega (arith, was.left) in
    let here = c.advance-more.ensures.advanced in
    let within = here.few in
    let advanced = advanced-turn begun at new c.args.most count c.loop-left.left more reply was.state was.silent was.few low here in
    let some = advanced.some in
    let few = advanced.few in
    let apart = c.if-count-most.false in
    let quiet : is_silent reply ≡ true = ap (λ o. is_silent (next_reply o)) c.in_default.is in
    let steps : new.scenario.steps ≡ at.scenario.steps = ap (λ (m : Loaded). m.scenario.steps) here.state in
    record {
      few = (omega (arith, few, apart));
      left = (omega (arith, was.left, steps, c.advance-more.ensures.spent, within));
      state = advanced.state;
      kept = advanced-kept begun new c.args.most (count + more) reply c.requires.kept advanced;
      silent = silent-all begun new c.args.most (count + more) reply advanced quiet;
    }
