use Rattle.cmwq_image.proofs.WritingLemmas.{all_more, image_more}
use Rattle.cmwq_image.proofs.writing.push_actors.Goals as goal
use Rattle.cmwq_image.specs.Image.{actor_image}
use Rattle.cmwq_types.specs.Values.{IsActor}

pub loop-actor-preserved : goal.loop-actor-preserved
loop-actor-preserved c =
    let i = c.loop-actor.actor-index in
    let x = c.actor-item.result in
    record {
      image = image_more actor_image c.args.actors.now i x c.args.bytes.now.items c.loop-actor.bytes.items c.push_actor.new.bytes.items c.loop-actor-test.true c.actor-item.is
          c.loop-actor.invariant.image c.in_ok-push_actor.ensures.image;
      actors = all_more IsActor c.args.actors.now i x c.loop-actor-test.true c.actor-item.is c.loop-actor.invariant.actors c.in_ok-push_actor.ensures.actor;
    }
