-- What a clerk tells of a run and keeps of it. No public clause cites this.
use Rattle.std.specs.Prelude.{ℕ, List, Option, Some, None, ◌++◌}
use Rattle.cmwq_types.specs.Contents.{ScenarioContents}
use Rattle.cmwq_types.specs.declared.instr.Instr.{Instr}
use Rattle.cmwq_table.specs.State.{State}
use Rattle.cmwq_table.specs.Table.{after_all}
use Rattle.cmwq_play.specs.Telling.{kept_from, told_from}
use Rattle.cmwq_blame.specs.Blame.{BlameContents, blame_after}
use Rattle.cmwq_blame.specs.Bounds.{IsBlameWithin}
use Rattle.cmwq_ledger.specs.Books.{books_after}
use Rattle.cmwq_ledger.specs.Bounds.{AreBooksWithin}
use Rattle.cmwq_ledger.specs.Ledger.{lines_ending_at}
use Rattle.cmwq_times.specs.TimesText.{end_rows, line_rows}
use Rattle.cmwq_times.specs.declared.clerk.Clerk.{Clerk}

-- the row of what an instruction ends
abbrev pub clerk_tells : Clerk → ScenarioContents → State → Instr → List ℕ
clerk_tells clerk S s instr = line_rows clerk.asked.format S (lines_ending_at S clerk.books.ledger s instr)

-- for whom works waited, if that is counted
abbrev pub blame_kept : ScenarioContents → Option BlameContents → State → Instr → Option BlameContents
blame_kept S (Some B) s instr = Some (blame_after S B s instr)
blame_kept S None s instr = None

abbrev pub clerk_keeps : Clerk → ScenarioContents → State → Instr → Clerk
clerk_keeps clerk S s instr =
    record clerk { books = books_after S clerk.books s instr; blame = blame_kept S clerk.blame s instr }

-- what is told once the run has ended
abbrev pub clerk_ends : Clerk → ScenarioContents → State → List ℕ
clerk_ends clerk S s = end_rows clerk.asked.format S clerk.books clerk.blame s

abbrev pub clerk_told : Clerk → ScenarioContents → State → List Instr → List ℕ
clerk_told clerk S s instrs =
    told_from clerk_tells clerk_keeps clerk S s instrs
    ++ clerk_ends (kept_from clerk_tells clerk_keeps clerk S s instrs) S (after_all S s instrs)

-- How great its counts are.

abbrev pub IsBlameIfWithin : ℕ → Option BlameContents → Type 0
IsBlameIfWithin n (Some B) = IsBlameWithin n B
IsBlameIfWithin n None = Unit {0}

pub record IsWithin (n : ℕ) (clerk : Clerk) : Type 0 where
  pub books : AreBooksWithin n clerk.books
  pub blame : IsBlameIfWithin n clerk.blame
