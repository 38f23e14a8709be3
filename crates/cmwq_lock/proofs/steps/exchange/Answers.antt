use Rattle.std.proofs.Common.{arith}
use Rattle.cmwq_lock.proofs.Drawing.{exchanges_drawn}
use Rattle.cmwq_lock.proofs.steps.exchange.Goals as goal

pub compare_exchange-requires : goal.compare_exchange-requires
compare_exchange-requires g c = (c.requires.place.same_table, omega arith, exchanges_drawn g.T.Kept _ _ _ _ _ c.requires.out c.requires.expects c.requires.room)
