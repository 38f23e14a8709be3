use Rattle.std.proofs.Common.{◌≡◌, ℕ, List, ap, sym, ◌∙◌, subst, arith, reverse}
use Rattle.cmwq_orders.specs.declared.choice.Choice.{Choice}
use Rattle.cmwq_explore.proofs.TraceLemmas.{reverse_push, way_back, way_whole}
use Rattle.cmwq_explore.specs.Tracing.{IsWay}
use Rattle.cmwq_explore.proofs.tracing.choices_back.Goals as goal

pub steps-smaller : goal.steps-smaller
steps-smaller c =
    (way_back c.args.plan.now.scenario c.args.plan.now.before c.args.question c.args.seen.now c.args.place c.steps.at c.mark_at-mark.ensures.0 c.mark_at-mark.result (reverse c.steps.back.items)
    c.requires.grown c.steps-test.true c.mark_at-mark.ensures.1 c.steps.invariant.way).0

pub steps-preserved : goal.steps-preserved
steps-preserved c =
    let back =
    way_back c.args.plan.now.scenario c.args.plan.now.before c.args.question c.args.seen.now c.args.place c.steps.at c.mark_at-mark.ensures.0 c.mark_at-mark.result (reverse c.steps.back.items)
    c.requires.grown c.steps-test.true c.mark_at-mark.ensures.1 c.steps.invariant.way in
    let turned = ap (λ (cs : List Choice). reverse cs) c.in_ok-push.ensures.items ∙ reverse_push c.steps.back.items c.mark_at-mark.result.choice in
    let less = back.0 in
    let within = c.steps.invariant.within in
    record {
      within = omega (arith, less, within);
      way = subst (λ (cs : List Choice). IsWay c.args.plan.now.scenario c.args.plan.now.before c.args.seen.now c.mark_at-mark.result.from c.args.place cs) (sym turned) back.1;
    }

pub returns : goal.returns
returns c =
    let none : c.steps.at ≡ 0 = omega arith in
    way_whole c.args.plan.now.scenario c.args.plan.now.before c.args.question c.args.seen.now c.args.place (reverse c.steps.back.items) c.requires.grown
    (subst (λ (n : ℕ). IsWay c.args.plan.now.scenario c.args.plan.now.before c.args.seen.now n c.args.place (reverse c.steps.back.items)) none c.steps.invariant.way)
