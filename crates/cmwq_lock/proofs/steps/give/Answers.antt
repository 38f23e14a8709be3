use Rattle.std.proofs.Common.{arith}
use Rattle.cmwq_lock.proofs.Opening.{gives_pass}
use Rattle.cmwq_lock.proofs.steps.give.Goals as goal

pub split_seat-requires : goal.split_seat-requires
split_seat-requires g c = (c.requires.place.same_table, omega arith, gives_pass g.T.Kept _ _ _ c.requires.opens)
