use Rattle.std.proofs.Common.{arith}
use Rattle.cmwq_lock.proofs.Meeting.{parts_passes}
use Rattle.cmwq_lock.proofs.steps.part.Goals as goal

pub split_seat-requires : goal.split_seat-requires
split_seat-requires g c = (c.requires.place.same_table, omega arith, parts_passes g.T.Kept _ _ _ c.requires.both)
