use Rattle.std.proofs.Common.{◌≡◌, map}
use Rattle.cmwq_table.specs.Counts.{first_runnable}
use Rattle.cmwq_picture.specs.Picture.{below}
use Rattle.cmwq_picture.proofs.moment.heads.Given as goal

abbrev pub invariant-loop-pool : goal.invariant-loop-pool
invariant-loop-pool g l = l.heads.items ≡ map (first_runnable (g.R.Reads.loaded l.machine) (g.R.Reads.state l.machine)) (below l.pool)
