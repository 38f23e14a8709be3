use Rattle.std.proofs.Common.{◌≡◌, ◌*◌}
use Rattle.cmwq_types.specs.Scenario.{expand_lines}
use Rattle.cmwq_table.specs.Table.{after_all}
use Rattle.cmwq_ledger.specs.Books.{books_from}
use Rattle.cmwq_ledger.specs.Bounds.{AreBooksWithin}
use Rattle.cmwq_ledger.specs.Ledger.{lines_from}
use Rattle.cmwq_runs.specs.RunInstructions.{left}
use Rattle.cmwq_sweep.specs.Sweeping.{last_finish}
use Rattle.cmwq_sweep.proofs.trial.Trial.issue_all.Given as goal

-- what is left comes, from here, to what all come to
abbrev pub invariant-loop-instr : goal.invariant-loop-instr
invariant-loop-instr g l =
    let S = g.M.Reads.loaded l.fn.self.machine in
    let first = g.M.Reads.state l.fn.self.machine in
    let s = g.M.Reads.state l.self.machine in
    record {
      loaded : g.M.Reads.loaded l.self.machine ≡ S;
      state : after_all S s (left l.instr-iterator) ≡ after_all S first (expand_lines l.lines);
      books : books_from S l.self.books s (left l.instr-iterator) ≡ books_from S l.fn.self.books first (expand_lines l.lines);
      last : last_finish l.self.last (lines_from S l.self.books.ledger s (left l.instr-iterator))
          ≡ last_finish l.fn.self.last (lines_from S l.fn.self.books.ledger first (expand_lines l.lines));
      fits : AreBooksWithin (512 * s.spent) l.self.books;
    }
