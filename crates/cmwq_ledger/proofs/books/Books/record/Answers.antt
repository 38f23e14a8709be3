use Rattle.std.proofs.Common.{ap, ◌∙◌}
use Rattle.cmwq_ledger.specs.Books.{BooksContents, books_moved}
use Rattle.cmwq_ledger.specs.Ledger.{lines_ended}
use Rattle.cmwq_ledger.proofs.RecordLemmas.{books-recorded, line-recorded}
use Rattle.cmwq_ledger.proofs.books.Books.record.Goals as goal

pub returns-clause-recorded : goal.returns-clause-recorded
returns-clause-recorded g c = λ s at is.
    let S = g.R.Reads.loaded c.args.machine.now in
    let t = g.R.Reads.state c.args.machine.now in
    c.enter.ensures.moved
    ∙ ap (λ (B : BooksContents). books_moved S B t c.args.instr c.args.reply) c.pass_from.ensures.passed
    ∙ books-recorded S c.args.self.now s t c.args.instr c.args.reply c.scenario-scenario.ensures.setting is c.args.time at

pub returns-clause-line : goal.returns-clause-line
returns-clause-line g c = λ s at is.
    let S = g.R.Reads.loaded c.args.machine.now in
    let t = g.R.Reads.state c.args.machine.now in
    c.enter.ensures.line
    ∙ ap (λ (B : BooksContents). lines_ended B.ledger t.time c.args.instr c.args.reply) c.pass_from.ensures.passed
    ∙ line-recorded S c.args.self.now s t c.args.instr c.args.reply c.scenario-scenario.ensures.setting is c.args.time at
