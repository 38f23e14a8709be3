-- What runs come to that differ by the declared max_active of one queue.
use Rattle.std.specs.Prelude.{ℕ, zero, suc, ◌+◌, Bool, true, false, List, [], ◌∷◌, ◌++◌, codes, length, if◌then◌else◌, slice_index_or}
use Rattle.std.specs.Fmt.{decimal}
use Rattle.cmwq_types.specs.Contents.{ScenarioContents}
use Rattle.cmwq_types.specs.declared.instr.Instr.{Instr}
use Rattle.cmwq_table.specs.State.{State, start}
use Rattle.cmwq_table.specs.Table.{run}
use Rattle.cmwq_ledger.specs.Books.{BooksContents, books_begun, books_ended, books_from}
use Rattle.cmwq_ledger.specs.Ledger.{empty_ledger, lines_from, still_lines}
use Rattle.cmwq_ledger.specs.Totals.{nothing_counted}
use Rattle.cmwq_ledger.specs.declared.queue_totals.QueueTotals.{QueueTotals}
use Rattle.cmwq_ledger.specs.declared.times_line.Fate.{Fate}
use Rattle.cmwq_ledger.specs.declared.times_line.Fate.TheVariants.{Finished, Cancelled, StillPending, StillRunning}
use Rattle.cmwq_ledger.specs.declared.times_line.TimesLine.{TimesLine}
use Rattle.cmwq_reports.specs.declared.report.Format.{Format}
use Rattle.cmwq_reports.specs.declared.report.Format.TheVariants.{Text, Json}
use Rattle.cmwq_sweep.specs.Varied.{varied}
use Rattle.cmwq_sweep.specs.declared.sweep_row.SweepRow.{SweepRow}

abbrev pub is_finished : Fate → Bool
is_finished Finished = true
is_finished Cancelled = false
is_finished (StillPending place) = false
is_finished StillRunning = false

-- the time of the last of these lines that tells of a finish; this one where none does
abbrev pub last_finish : ℕ → List TimesLine → ℕ
last_finish last [] = last
last_finish last (line ∷ lines) = last_finish (if is_finished line.fate then line.time else last) lines

-- what the run has come to in this state, with its books, and the time of its last finish
abbrev pub row_of : ScenarioContents → (queue max last : ℕ) → BooksContents → State → SweepRow
row_of S queue max last B s =
    let totals = slice_index_or (books_ended S B s).totals.queues queue nothing_counted in
    record {
      max = max;
      last = last;
      left = length (still_lines S B.ledger s);
      most = totals.most;
      longest = totals.longest;
    }

-- what the instructions come to where the queue is declared with this max
abbrev pub sweep_row : ScenarioContents → List Instr → (queue max : ℕ) → SweepRow
sweep_row S instrs queue max =
    let T = varied S queue max in
    row_of T queue max (last_finish 0 (lines_from T (empty_ledger T) (start T) instrs)) (books_from T (books_begun T) (start T) instrs) (run T instrs)

-- the row as it is written
abbrev pub sweep_line : Format → SweepRow → List ℕ
sweep_line Text row =
    codes "max " ++ (decimal row.max ++ (codes " last " ++ (decimal row.last ++ (codes " left " ++ (decimal row.left ++
    (codes " most " ++ (decimal row.most ++ (codes " longest " ++ (decimal row.longest ++ codes "\n")))))))))
sweep_line Json row =
    codes "{\"max\":" ++ (decimal row.max ++ (codes ",\"last\":" ++ (decimal row.last ++ (codes ",\"left\":" ++
    (decimal row.left ++ (codes ",\"most\":" ++ (decimal row.most ++ (codes ",\"longest\":" ++ (decimal row.longest ++
    codes "}\n")))))))))

-- the rows of so many values, from the lowest one on
abbrev pub sweep_text : Format → ScenarioContents → List Instr → (queue low count : ℕ) → List ℕ
sweep_text format S instrs queue low zero = []
sweep_text format S instrs queue low (suc k) = sweep_text format S instrs queue low k ++ sweep_line format (sweep_row S instrs queue (low + k))
