-- A trial's last finish along its instructions.
use Rattle.std.proofs.Common.{◌≡◌, ◌∙◌, ℕ, List, [], ◌∷◌, ◌++◌, Option, Some, None, ap, ap₂, cond, refl, sym}
use Rattle.std.specs.Prelude.{option_to_list}
use Rattle.cmwq_types.specs.Contents.{ScenarioContents}
use Rattle.cmwq_types.specs.declared.instr.Instr.{Instr}
use Rattle.cmwq_table.specs.State.{State}
use Rattle.cmwq_table.specs.Table.{after_all, table}
use Rattle.cmwq_ledger.specs.Books.{BooksContents, books_after, books_from}
use Rattle.cmwq_ledger.specs.Contents.{LedgerContents}
use Rattle.cmwq_ledger.specs.Ledger.{ledger_after, lines_ending_at, lines_from}
use Rattle.cmwq_ledger.specs.declared.times_line.TimesLine.{TimesLine}
use Rattle.cmwq_sweep.specs.Sweeping.{is_finished, last_finish}
use Rattle.cmwq_sweep.specs.Trials.{finish_behind}

-- some lines, and then others
pub last-more : (last : ℕ) (xs ys : List TimesLine) → last_finish last (xs ++ ys) ≡ last_finish (last_finish last xs) ys
last-more last [] ys = refl
last-more last (x ∷ xs) ys = last-more (cond (is_finished x.fate) x.time last) xs ys

pub last-behind : (last : ℕ) (line : Option TimesLine) → finish_behind last line ≡ last_finish last (option_to_list line)
last-behind last (Some line) = refl
last-behind last None = refl

-- One instruction in a scenario that is S, and then the rest.
module _ (S T : ScenarioContents) (s t : State) (B C : BooksContents) (last now : ℕ) (i : Instr) (rest : List Instr) (same : T ≡ S) (state : t ≡ (table T s i).0)
    (books : C ≡ books_after T B s i) (ends : now ≡ last_finish last (lines_ending_at T B.ledger s i)) where
  in-S : t ≡ (table S s i).0
  in-S = state ∙ ap (λ (U : ScenarioContents). (table U s i).0) same

  books-in-S : C ≡ books_after S B s i
  books-in-S = books ∙ ap (λ (U : ScenarioContents). books_after U B s i) same

  pub then-state : after_all S t rest ≡ after_all S s (i ∷ rest)
  then-state = ap (λ (u : State). after_all S u rest) in-S

  pub then-books : books_from S C t rest ≡ books_from S B s (i ∷ rest)
  then-books = ap₂ (λ (D : BooksContents) (u : State). books_from S D u rest) books-in-S in-S

  pub then-last : last_finish now (lines_from S C.ledger t rest) ≡ last_finish last (lines_from S B.ledger s (i ∷ rest))
  then-last =
      ap (λ (n : ℕ). last_finish n (lines_from S C.ledger t rest)) (ends ∙ ap (λ (U : ScenarioContents). last_finish last (lines_ending_at U B.ledger s i)) same)
      ∙ ap₂ (λ (D : BooksContents) (u : State). last_finish (last_finish last (lines_ending_at S B.ledger s i)) (lines_from S D.ledger u rest)) books-in-S in-S
      ∙ sym (last-more last (lines_ending_at S B.ledger s i) (lines_from S (ledger_after S B.ledger s i) (table S s i).0 rest))
