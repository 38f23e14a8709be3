use Rattle.std.proofs.Common.{◌≡◌, ◌≤◌}
use Rattle.cmwq_types.specs.Scenario.{pool_count}
use Rattle.cmwq_parts.proofs.PoolLemmas.{Covers, IsWithin}
use Rattle.cmwq_parts.proofs.going.Going.first_move.Given as goal

-- each pool that has a move is left, and each that is left is there
abbrev pub invariant-loop-pool : goal.invariant-loop-pool
invariant-loop-pool g l = record {
  few : pool_count l.fn.self.scenario ≤ 64;
  same : l.self ≡ l.fn.self;
  left : Covers l.fn.self.scenario l.fn.self.state l.left;
  within : IsWithin l.fn.self.scenario l.left;
}

abbrev pub decreases-loop-pool : goal.decreases-loop-pool
decreases-loop-pool g l = l.left.0
