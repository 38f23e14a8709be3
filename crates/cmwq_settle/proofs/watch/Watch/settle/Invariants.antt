use Rattle.std.proofs.Common.{◌≡◌, ◌<◌, ℕ, false}
use Rattle.cmwq_settle.specs.Quiet.{after_nexts, is_quiet_after}
use Rattle.cmwq_settle.proofs.watch.Watch.settle.Given as goal

-- so many `next` were issued, and before each the machine wasn't quiet
abbrev pub invariant-loop-turn : goal.invariant-loop-turn
invariant-loop-turn g l = record {
  loaded : g.M.Reads.loaded l.self.machine ≡ g.M.Reads.loaded l.fn.self.machine;
  state : g.M.Reads.state l.self.machine ≡ after_nexts (g.M.Reads.loaded l.fn.self.machine) (g.M.Reads.state l.fn.self.machine) l.turn;
  unquiet : (j : ℕ) → j < l.turn → is_quiet_after (g.M.Reads.loaded l.fn.self.machine) (g.M.Reads.state l.fn.self.machine) j ≡ false;
}
