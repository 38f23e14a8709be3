use Rattle.std.proofs.Common.{arith}
use Rattle.cmwq_lock.proofs.Meeting.{compares_seen}
use Rattle.cmwq_lock.proofs.steps.compare.Goals as goal

pub load-requires : goal.load-requires
load-requires g c = (c.requires.place.same_table, omega arith, compares_seen g.T.Kept _ _ _ _ c.requires.both)
