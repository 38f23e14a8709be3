-- A ledger and totals together, along a run.
use Rattle.std.specs.Prelude.{Bool, List, [], ◌∷◌, if◌then◌else◌}
use Rattle.cmwq_types.specs.Contents.{ScenarioContents}
use Rattle.cmwq_types.specs.declared.instr.Instr.{Instr}
use Rattle.cmwq_types.specs.declared.reply.Reply.{Reply}
use Rattle.cmwq_table.specs.State.{State}
use Rattle.cmwq_table.specs.Table.{table}
use Rattle.cmwq_ledger.specs.Contents.{LedgerContents, TotalsContents}
use Rattle.cmwq_ledger.specs.Ledger.{empty_ledger, ledger_after, ledger_moved, ledger_ticked, lines_ended, still_lines}
use Rattle.cmwq_ledger.specs.Totals.{totals_after, totals_begun, totals_ended, totals_moved, totals_ticked}

pub record BooksContents : Type 0 where
  pub ledger : LedgerContents
  pub totals : TotalsContents

-- the books with which a scenario begins
abbrev pub books_begun : ScenarioContents → BooksContents
books_begun S = record { ledger = empty_ledger S; totals = totals_begun S }

-- the books after an instruction, with the state before it
abbrev pub books_after : ScenarioContents → BooksContents → State → Instr → BooksContents
books_after S B s i = record { ledger = ledger_after S B.ledger s i; totals = totals_after S B.ledger B.totals s i }

-- after the instructions
abbrev pub books_from : ScenarioContents → BooksContents → State → List Instr → BooksContents
books_from S B s [] = B
books_from S B s (i ∷ is) = books_from S (books_after S B s i) (table S s i).0 is

-- at the end of a run the lines of those that are still there count too
abbrev pub books_ended : ScenarioContents → BooksContents → State → BooksContents
books_ended S B s = record B { totals = totals_ended S (still_lines S B.ledger s) B.totals }

-- The same with the state after the instruction alone: whether a tick passed in it, what it leads to, and its reply.

-- a tick is the same after it as before it, up to what is left to burn
abbrev pub books_passed : ScenarioContents → BooksContents → Bool → State → BooksContents
books_passed S B passed after =
    if passed then record { ledger = ledger_ticked S after B.ledger; totals = totals_ticked S after B.totals } else B

abbrev pub books_moved : ScenarioContents → BooksContents → State → Instr → Reply → BooksContents
books_moved S B after i reply =
    record {
      ledger = ledger_moved B.ledger after i reply;
      totals = totals_moved S B.totals after i reply (lines_ended B.ledger after.time i reply);
    }
