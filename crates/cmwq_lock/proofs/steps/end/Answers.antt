use Rattle.std.proofs.Common.{arith}
use Rattle.cmwq_lock.proofs.Turning.{ends_turn}
use Rattle.cmwq_lock.proofs.steps.end.Goals as goal

pub fetch_add-requires : goal.fetch_add-requires
fetch_add-requires g c = (c.requires.place.same_table, omega arith, ends_turn g.T.Kept _ _ _ _ _ c.requires.inside c.requires.left.1 c.requires.left.2)
