use Rattle.std.proofs.Common.{◌≡◌, ◌<◌, ◌*◌, ◌-◌, ◌^◌, ℕ}
use Rattle.std.specs.List.{All, Contains}
use Rattle.cmwq_types.specs.declared.limits.TheConstants.{MAX_HISTORY}
use Rattle.cmwq_debug.specs.Checkpoints.{spread_of, thinned_up_to, with_room}
use Rattle.cmwq_debug.proofs.checkpoints.Checkpoints.make_room.Given as goal

-- thinned so many times fewer, it has room
abbrev pub invariant-loop-self : goal.invariant-loop-self
invariant-loop-self g l = record {
  spread : (n : ℕ) × (0 < l.self.spacing → MAX_HISTORY < l.self.spacing * 2 ^ n) × (thinned_up_to n (spread_of l.self) ≡ with_room (spread_of l.initial.self));
  kept : All (Contains l.initial.self.checkpoints) l.self.checkpoints;
}

abbrev pub decreases-loop-self : goal.decreases-loop-self
decreases-loop-self g l = 2 * MAX_HISTORY - l.self.spacing
