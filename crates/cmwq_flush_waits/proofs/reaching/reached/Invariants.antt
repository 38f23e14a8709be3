use Rattle.std.proofs.Common.{◌≡◌}
use Rattle.cmwq_flush_waits.specs.Holders.{HasHolders}
use Rattle.cmwq_flush_waits.specs.Waits.{with_blamed_below}
use Rattle.cmwq_flush_waits.proofs.reaching.reached.Given as goal

abbrev pub invariant-loop-place : goal.invariant-loop-place
invariant-loop-place g l = record {
  blamed : l.all.items ≡ with_blamed_below (g.R.Reads.loaded l.machine) (g.R.Reads.state l.machine) l.fn.instances l.place;
  held : HasHolders (g.R.Reads.loaded l.machine) (g.R.Reads.state l.machine) l.held l.all.items;
}
