use Rattle.std.proofs.Common.{arith, ◌^◌}
use Rattle.cmwq_ledger.proofs.BoundLemmas.{ledger-up, totals-up}
use Rattle.cmwq_ledger.proofs.books.Books.pass_from.Goals as goal

pub returns-else-time-clause-ledger : goal.returns-else-time-clause-ledger
returns-else-time-clause-ledger g c = ledger-up (2 ^ 62) (2 ^ 63) _ (omega arith) c.requires.ledger

pub returns-else-time-clause-totals : goal.returns-else-time-clause-totals
returns-else-time-clause-totals g c = totals-up (2 ^ 62) (2 ^ 63) _ (omega arith) c.requires.totals
