use Rattle.std.proofs.Common.{◌≡◌, ◌++◌, take}
use Rattle.std.specs.List.{All, flat_map}
use Rattle.cmwq_image.proofs.writing.push_actors.Given as goal
use Rattle.cmwq_image.specs.Image.{actor_image}
use Rattle.cmwq_types.specs.Values.{IsActor}

abbrev pub invariant-loop-actor : goal.invariant-loop-actor
invariant-loop-actor l = record {
  image : l.bytes.items ≡ l.fn.bytes.items ++ flat_map actor_image (take l.actor-index l.actors);
  actors : All IsActor (take l.actor-index l.actors);
}
