use Rattle.std.proofs.Common.{◌≡◌, ◌*◌, ap, subst, sym, ◌∙◌}
use Rattle.cmwq_types.specs.Contents.{ScenarioContents}
use Rattle.cmwq_types.specs.declared.reply.Reply.{Reply}
use Rattle.cmwq_table.specs.State.{State}
use Rattle.cmwq_table.specs.Table.{table}
use Rattle.cmwq_ledger.specs.Books.{BooksContents, books_after}
use Rattle.cmwq_ledger.specs.Bounds.{AreBooksWithin}
use Rattle.cmwq_ledger.specs.Ledger.{lines_ending_at}
use Rattle.cmwq_ledger.specs.declared.times_line.TimesLine.{TimesLine}
use Rattle.cmwq_ledger.proofs.RoomLemmas.{books-within}
use Rattle.cmwq_sweep.specs.Sweeping.{last_finish}
use Rattle.cmwq_sweep.proofs.TrialLemmas.{last-behind}
use Rattle.cmwq_sweep.proofs.trial.Trial.issue.Goals as goal

pub returns-clause-state : goal.returns-clause-state
returns-clause-state g c = ap (λ (after : State × Reply). after.0) c.exec-reply.ensures.exact

pub returns-clause-books : goal.returns-clause-books
returns-clause-books g c =
    let a = c.args.self.now in
    let s = g.M.Reads.state a.machine in
    let S = g.M.Reads.loaded a.machine in
    let i = c.args.instr in
    let here = c.exec-reply.ensures.exact ∙ ap (λ (T : ScenarioContents). table T s i) (sym c.exec-reply.ensures.scenario) in
    c.record-line.ensures.recorded s c.time-time.ensures here ∙ ap (λ (T : ScenarioContents). books_after T a.books s i) c.exec-reply.ensures.scenario

pub returns-clause-last : goal.returns-clause-last
returns-clause-last g c =
    let a = c.args.self.now in
    let s = g.M.Reads.state a.machine in
    let i = c.args.instr in
    let here = c.exec-reply.ensures.exact ∙ ap (λ (T : ScenarioContents). table T s i) (sym c.exec-reply.ensures.scenario) in
    c.finish_behind-self.ensures ∙ last-behind a.last c.record-line.result
    ∙ ap (last_finish a.last) (c.record-line.ensures.line s c.time-time.ensures here ∙ ap (λ (T : ScenarioContents). lines_ending_at T a.books.ledger s i) c.exec-reply.ensures.scenario)

pub returns-clause-fits : goal.returns-clause-fits
returns-clause-fits g c =
    let a = c.args.self.now in
    let s = g.M.Reads.state a.machine in
    let S = g.M.Reads.loaded a.machine in
    let i = c.args.instr in
    let t = g.M.Reads.state c.exec-reply.new.self in
    subst (λ (after : BooksContents). AreBooksWithin (512 * t.spent) after) (sym (returns-clause-books g c))
    (subst (λ (after : State × Reply). AreBooksWithin (512 * after.0.spent) (books_after S a.books s i)) (sym c.exec-reply.ensures.exact)
    (books-within S a.books s i c.scenario-scenario.ensures.setting c.requires))
