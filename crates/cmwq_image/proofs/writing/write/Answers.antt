use Rattle.std.proofs.Common.{ap}
use Rattle.cmwq_types.specs.Contents.{ScenarioContents}
use Rattle.cmwq_image.proofs.SizeLemmas.{bodies_fit, lines_fit}
use Rattle.cmwq_image.proofs.writing.write.Goals as goal

pub push_works-requires : goal.push_works-requires
push_works-requires c =
    rw (c.deref-2.ensures.value, ap (λ (S : ScenarioContents). S.works) c.scenario.view_is) (bodies_fit c.args.scenario.now c.requires)

pub push_actors-requires : goal.push_actors-requires
push_actors-requires c =
    rw (c.deref-3.ensures.value, ap (λ (S : ScenarioContents). S.actors) c.scenario.view_is) (lines_fit c.args.scenario.now c.requires)
