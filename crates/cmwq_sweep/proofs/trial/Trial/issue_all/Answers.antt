use Rattle.std.proofs.Common.{◌≡◌, ◌∙◌, ◌∷◌, ap, rules, sym}
use Rattle.cmwq_table.specs.Table.{after_all}
use Rattle.cmwq_ledger.specs.Books.{books_from}
use Rattle.cmwq_ledger.specs.Ledger.{lines_from}
use Rattle.cmwq_runs.specs.RunInstructions.{left}
use Rattle.cmwq_sweep.specs.Sweeping.{last_finish}
use Rattle.cmwq_sweep.proofs.TrialLemmas.{then-books, then-last, then-state}
use Rattle.cmwq_sweep.proofs.trial.Trial.issue_all.Goals as goal

pub loop-instr-preserved : goal.loop-instr-preserved
loop-instr-preserved g c =
    let S = g.M.Reads.loaded c.args.self.now.machine in
    let was = c.loop-instr.self in
    let s = g.M.Reads.state was.machine in
    let t = g.M.Reads.state c.issue.new.self.machine in
    let i = c.in-Some.instr in
    let rest = left c.next.new.self in
    let there = c.loop-instr.invariant in
    let first : left c.loop-instr.instr-iterator ≡ i ∷ rest = search rules in
    let done = c.issue.ensures in
    let T = g.M.Reads.loaded was.machine in
    record {
      loaded = done.loaded ∙ there.loaded;
      state = then-state S T s t was.books c.issue.new.self.books was.last c.issue.new.self.last i rest there.loaded done.state done.books done.last ∙ sym (ap (after_all S s) first) ∙ there.state;
      books = then-books S T s t was.books c.issue.new.self.books was.last c.issue.new.self.last i rest there.loaded done.state done.books done.last ∙ sym (ap (books_from S was.books s) first) ∙ there.books;
      last =
          then-last S T s t was.books c.issue.new.self.books was.last c.issue.new.self.last i rest there.loaded done.state done.books done.last
          ∙ sym (ap (λ is. last_finish was.last (lines_from S was.books.ledger s is)) first) ∙ there.last;
      fits = done.fits;
    }
