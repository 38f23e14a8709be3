use Rattle.std.proofs.Common.{arith}
use Rattle.std.proofs.lemmas.List.{nil_from_length}
use Rattle.cmwq_lock.proofs.Opening.{takes_pass}
use Rattle.cmwq_lock.proofs.steps.take_back.Goals as goal

pub join_seat-requires : goal.join_seat-requires
join_seat-requires g c = (c.requires.seats.0.same_table, c.requires.seats.1.same_table, nil_from_length _ c.requires.bare, omega arith, takes_pass g.T.Kept _ _ _ _ _ c.requires.opens c.requires.out)
