use Rattle.std.proofs.Common.{ap, arith, ◌∙◌}
use Rattle.std.proofs.lemmas.Grind.{common_steps}
use Rattle.cmwq_types.specs.Contents.{ActorContents}
use Rattle.cmwq_play.proofs.running.judge.Goals as goal

pub returns-in-None-clause-refused : goal.returns-in-None-clause-refused
returns-in-None-clause-refused c =
    let lines = c.deref.ensures.value ∙ ap (λ (actor : ActorContents). actor.lines) c.behind-scenario.view_is in
    let many = rw lines at c.in-None.ensures in
    (c.index.result.now, grind (arith, common_steps), many)

pub returns-in-Some-clause-can : goal.returns-in-Some-clause-can
returns-in-Some-clause-can c =
    let lines = c.deref.ensures.value ∙ ap (λ (actor : ActorContents). actor.lines) c.behind-scenario.view_is in
    let counted = rw lines at c.in-Some.ensures in
    (c.index.result.now, record { alone = grind (arith, common_steps); few = omega (arith, counted) })
