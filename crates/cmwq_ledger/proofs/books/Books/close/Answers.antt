use Rattle.std.proofs.Common.{◌^◌, ◌∙◌, List, subst, sym}
use Rattle.cmwq_ledger.specs.Books.{BooksContents}
use Rattle.cmwq_ledger.specs.Bounds.{AreLinesWithin, IsLedgerWithin}
use Rattle.cmwq_ledger.specs.declared.times_line.TimesLine.{TimesLine}
use Rattle.cmwq_ledger.proofs.StillLemmas.{still-within}
use Rattle.cmwq_ledger.proofs.books.Books.close.Goals as goal

pub count_lines-requires : goal.count_lines-requires
count_lines-requires g c =
    let S = g.R.Reads.loaded c.args.machine.now in
    let s = g.R.Reads.state c.args.machine.now in
    let within = subst (λ (B : BooksContents). IsLedgerWithin (2 ^ 62) B.ledger) (sym c.self.view_is) c.requires.room.ledger in
    subst (λ (lines : List TimesLine). AreLinesWithin (2 ^ 62) lines) (sym (c.deref.ensures.value ∙ c.in_ok-lines.ensures))
    (still-within (2 ^ 62) S c.self.inside.ledger s within)
