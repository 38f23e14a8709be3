use Rattle.std.proofs.Common.{◌≡◌, ◌≤◌, ◌+◌, ◌-◌, length}
use Rattle.cmwq_table.specs.Moves.{fill_times}
use Rattle.cmwq_parts.proofs.going.Going.fill_more.Given as goal

-- the turns that are left lead to the whole
abbrev pub invariant-loop-turn : goal.invariant-loop-turn
invariant-loop-turn g l = record {
  same : l.self.scenario ≡ l.fn.self.scenario;
  rest : fill_times l.self.scenario l.queue l.pool (length l.self.scenario.works - l._turn) l.self.state ≡ fill_times l.fn.self.scenario l.queue l.pool (length l.fn.self.scenario.works - 1) l.fn.self.state;
  stamps : l.self.state.next ≤ l.fn.self.state.next + l._turn;
}
