use Rattle.std.proofs.Common.{◌≡◌, ◌+◌, map, take}
use Rattle.cmwq_types.specs.declared.limits.TheConstants.{MAX_LINES}
use Rattle.cmwq_orders.specs.Orders.{lines_of}
use Rattle.cmwq_explore.specs.Plans.{line_count}
use Rattle.cmwq_explore.proofs.plan.lines_of_all.Given as goal

-- the lines of the actors so far, which the room lacks
abbrev pub invariant-loop-actor : goal.invariant-loop-actor
invariant-loop-actor l = record {
  lines : l.all.items ≡ map lines_of (take l.actor-index l.actors);
  room : l.room + line_count (take l.actor-index l.actors) ≡ MAX_LINES;
}
