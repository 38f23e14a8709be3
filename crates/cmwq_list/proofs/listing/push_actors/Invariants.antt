use Rattle.std.proofs.Common.{◌≡◌, ◌++◌, take}
use Rattle.std.specs.List.{All, flat_map}
use Rattle.cmwq_types.specs.Listing.{actor_lines, written_text}
use Rattle.cmwq_types.specs.Values.{IsActor}
use Rattle.cmwq_list.proofs.listing.push_actors.Given as goal

-- the lines so far, and that what they list are contents
abbrev pub invariant-loop-actor : goal.invariant-loop-actor
invariant-loop-actor l = record {
  text : l.text.items ≡ l.fn.text.items ++ flat_map written_text (flat_map (actor_lines l.scenario) (take l.actor-index l.scenario.actors));
  actors : All IsActor (take l.actor-index l.scenario.actors);
}
