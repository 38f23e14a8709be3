use Rattle.std.proofs.Common.{arith, subst, sym, ◌+◌, ◌^◌}
use Rattle.cmwq_ledger.specs.Bounds.{IsLedgerWithin}
use Rattle.cmwq_ledger.specs.Contents.{LedgerContents}
use Rattle.cmwq_ledger.proofs.BoundLemmas.{ledger-up, ledger-within}
use Rattle.cmwq_ledger.proofs.books.tick.Goals as goal

pub returns-clause-few : goal.returns-clause-few
returns-clause-few g c =
    let S = g.R.Reads.loaded c.args.machine.now in
    let s = g.R.Reads.state c.args.machine.now in
    subst (λ (L : LedgerContents). IsLedgerWithin (2 ^ 63) L) (sym c.tick.ensures)
    (ledger-up (2 ^ 62 + 1) (2 ^ 63) _ (omega arith) (ledger-within S s (2 ^ 62) c.args.ledger.now c.requires.ledger))
