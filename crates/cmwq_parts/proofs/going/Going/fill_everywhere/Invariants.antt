use Rattle.std.proofs.Common.{◌≡◌, ◌≤◌, ◌+◌, ◌*◌}
use Rattle.cmwq_table.specs.Moves.{fill_pools}
use Rattle.cmwq_types.specs.declared.limits.TheConstants.{MAX_WORKS}
use Rattle.cmwq_parts.proofs.going.Going.fill_everywhere.Given as goal

-- the pools so far are filled
abbrev pub invariant-loop-pool : goal.invariant-loop-pool
invariant-loop-pool g l = record {
  filled : l.self ≡ record l.fn.self { state = fill_pools l.fn.self.scenario l.queue l.pool l.fn.self.state };
  stamps : l.self.state.next ≤ l.fn.self.state.next + MAX_WORKS * l.pool;
}
