use Rattle.std.proofs.Common.{◌≡◌}
use Rattle.cmwq_lock.specs.Tokens.{lock_origin}
use Rattle.cmwq_lock.proofs.Turns.{StillWaits}
use Rattle.cmwq_lock.proofs.lock.TicketLock.take.Given as goal

abbrev pub invariant-loop : goal.invariant-loop
invariant-loop g l = record {
  can_next : (goal.iterator-loop g).can_next l.iterator';
  is_finite : (goal.iterator-loop g).is_finite l.iterator';
  same_lock : l.seat.table_id ≡ l.initial.seat.table_id;
  waits : StillWaits g.T.Kept l.initial.seat.me.0 l.seat.me (lock_origin g.T.Kept l.self);
}
