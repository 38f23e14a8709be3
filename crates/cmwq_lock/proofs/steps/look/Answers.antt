use Rattle.std.proofs.Common.{arith}
use Rattle.cmwq_lock.proofs.Turning.{looks_served}
use Rattle.cmwq_lock.proofs.steps.look.Goals as goal

pub load-requires : goal.load-requires
load-requires g c = (c.requires.place.same_table, omega arith, looks_served g.T.Kept _ _ _ _ c.requires.waits c.requires.bare)
