-- What is kept along a run of one trial. No public clause cites this.
use Rattle.std.specs.Prelude.{ℕ, Option, Some, None, if◌then◌else◌}
use Rattle.cmwq_ledger.specs.declared.times_line.TimesLine.{TimesLine}
use Rattle.cmwq_sweep.specs.Sweeping.{is_finished}

-- the time of the last finish behind a line, if there is one
abbrev pub finish_behind : ℕ → Option TimesLine → ℕ
finish_behind last (Some line) = if is_finished line.fate then line.time else last
finish_behind last None = last
