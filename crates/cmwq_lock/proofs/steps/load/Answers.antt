use Rattle.std.proofs.Common.{arith}
use Rattle.cmwq_lock.proofs.Drawing.{loads_drawn}
use Rattle.cmwq_lock.proofs.steps.load.Goals as goal

pub load-requires : goal.load-requires
load-requires g c = (c.requires.place.same_table, omega arith, loads_drawn g.T.Kept _ _ _ _ c.requires.out)
