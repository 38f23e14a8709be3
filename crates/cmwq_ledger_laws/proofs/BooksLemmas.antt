-- The books of a run are its ledger and its totals.
use Rattle.std.proofs.Common.{◌≡◌, List, [], ◌∷◌, refl}
use Rattle.cmwq_types.specs.Contents.{ScenarioContents}
use Rattle.cmwq_types.specs.declared.instr.Instr.{Instr}
use Rattle.cmwq_table.specs.Laws.{state_after}
use Rattle.cmwq_table.specs.State.{State}
use Rattle.cmwq_ledger.specs.Books.{BooksContents, books_after, books_from}
use Rattle.cmwq_ledger.specs.Ledger.{ledger_from}
use Rattle.cmwq_ledger.specs.Totals.{totals_from}

pub books-are : (S : ScenarioContents) (B : BooksContents) (s : State) (instrs : List Instr)
    → record { ledger = ledger_from S B.ledger s instrs; totals = totals_from S B.ledger B.totals s instrs } ≡ books_from S B s instrs
books-are S B s [] = refl
books-are S B s (i ∷ instrs) = books-are S (books_after S B s i) (state_after S s i) instrs
