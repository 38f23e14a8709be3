use Rattle.std.proofs.Common.{◌≡◌, ◌≤◌, ◌+◌, ◌*◌}
use Rattle.cmwq_table.specs.Moves.{fill_freezable}
use Rattle.cmwq_table.specs.Ready.{most_everywhere}
use Rattle.cmwq_parts.proofs.going.Going.fill_freezable.Given as goal

-- the freezable queues so far are filled
abbrev pub invariant-loop-queue : goal.invariant-loop-queue
invariant-loop-queue g l = record {
  filled : l.self ≡ record l.fn.self { state = fill_freezable l.fn.self.scenario l.queue l.fn.self.state };
  stamps : l.self.state.next ≤ l.fn.self.state.next + most_everywhere * l.queue;
}
