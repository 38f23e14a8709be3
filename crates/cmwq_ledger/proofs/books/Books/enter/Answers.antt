use Rattle.std.proofs.Common.{subst, sym, ◌^◌}
use Rattle.cmwq_ledger.specs.Books.{BooksContents}
use Rattle.cmwq_ledger.specs.Bounds.{IsLedgerWithin}
use Rattle.cmwq_ledger.proofs.books.Books.enter.Goals as goal

pub record-requires-clause-few : goal.record-requires-clause-few
record-requires-clause-few g c =
    c.record-line.ensures.few (2 ^ 63) (subst (λ (B : BooksContents). IsLedgerWithin (2 ^ 63) B.ledger) (sym c.self.view_is) c.requires.ledger)
