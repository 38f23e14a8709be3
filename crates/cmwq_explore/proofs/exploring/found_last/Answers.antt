use Rattle.std.proofs.Common.{ap, ◌-◌, ℕ, refl}
use Rattle.cmwq_explore.proofs.ResultLemmas.{comes_failed, found_answers, found_short}
use Rattle.cmwq_explore.specs.declared.exploring.Ending.TheVariants.{Failed}
use Rattle.cmwq_explore.proofs.exploring.found_last.Goals as goal

pub returns-clause-answer : goal.returns-clause-answer
returns-clause-answer c limit =
    let plan = c.args.plan.now.value in
    found_answers plan.scenario plan.before c.args.question limit c.in_ok-order.order.items
    (comes_failed plan plan c.deref.result.now c.args.question c.args.seen.now Failed (c.len.result - 1) c.in_ok-order.order.items refl c.deref.ensures
    refl c.requires (ap (λ (n : ℕ). n - 1) c.len.ensures.len) c.in_ok-order.ensures)
    c.found.result c.found.ensures

pub returns-clause-short : goal.returns-clause-short
returns-clause-short c =
    let plan = c.args.plan.now.value in
    found_short plan.scenario plan.before c.args.question 0 c.in_ok-order.order.items
    (comes_failed plan plan c.deref.result.now c.args.question c.args.seen.now Failed (c.len.result - 1) c.in_ok-order.order.items refl c.deref.ensures
    refl c.requires (ap (λ (n : ℕ). n - 1) c.len.ensures.len) c.in_ok-order.ensures)
    c.found.result c.found.ensures
