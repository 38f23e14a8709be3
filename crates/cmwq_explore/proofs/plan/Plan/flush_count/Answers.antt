use Rattle.std.proofs.Common.{◌≡◌, ◌+◌, ◌∙◌, arith, ap, sym, take}
use Rattle.cmwq_explore.specs.Plans.{PlanContents, flush_count}
use Rattle.cmwq_explore.proofs.PlanLemmas.{flush_step}
use Rattle.cmwq_explore.proofs.plan.Plan.flush_count.Goals as goal

pub flush_count-count-requires : goal.flush_count-count-requires
flush_count-count-requires c =
    (flush_step c.self.inside.scenario.value.actors c.self.inside.lines.items c.deref-lines-items.result.now c.loop-lines.lines-index c.lines-item.result
    c.deref-lines-items.ensures.value c.self.invariant.of_actors c.self.invariant.few c.loop-lines-test.true c.lines-item.is).0

pub overflow_add-count : goal.overflow_add-count
overflow_add-count c =
    let step =
    flush_step c.self.inside.scenario.value.actors c.self.inside.lines.items c.deref-lines-items.result.now c.loop-lines.lines-index c.lines-item.result
    c.deref-lines-items.ensures.value c.self.invariant.of_actors c.self.invariant.few c.loop-lines-test.true c.lines-item.is in
    let so_far : c.loop-lines.count ≡ flush_count (take c.loop-lines.lines-index c.self.inside.scenario.value.actors) =
    c.loop-lines.invariant ∙ ap (λ (p : PlanContents). flush_count (take c.loop-lines.lines-index p.scenario.actors)) (sym c.self.view_is) in
    let one = c.flush_count-count.ensures in
    omega (arith, so_far, one, step.1, step.2)

pub loop-lines-preserved : goal.loop-lines-preserved
loop-lines-preserved c =
    let step =
    flush_step c.self.inside.scenario.value.actors c.self.inside.lines.items c.deref-lines-items.result.now c.loop-lines.lines-index c.lines-item.result
    c.deref-lines-items.ensures.value c.self.invariant.of_actors c.self.invariant.few c.loop-lines-test.true c.lines-item.is in
    let so_far : c.loop-lines.count ≡ flush_count (take c.loop-lines.lines-index c.self.inside.scenario.value.actors) =
    c.loop-lines.invariant ∙ ap (λ (p : PlanContents). flush_count (take c.loop-lines.lines-index p.scenario.actors)) (sym c.self.view_is) in
    let one = c.flush_count-count.ensures in
    let sum : c.loop-lines.count + c.flush_count-count.result ≡ flush_count (take (c.loop-lines.lines-index + 1) c.self.inside.scenario.value.actors) = omega (arith, so_far, one, step.1) in
    sum ∙ ap (λ (p : PlanContents). flush_count (take (c.loop-lines.lines-index + 1) p.scenario.actors)) c.self.view_is
