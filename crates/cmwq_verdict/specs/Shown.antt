-- How a byte of a text is shown.
use Rattle.std.specs.Prelude.{ℕ}
use Rattle.cmwq_verdict.specs.Looks.{blank, seen}
use Rattle.cmwq_verdict.specs.Verdicts.{visible}
use Rattle.cmwq_verdict.specs.declared.shown.Shown.{Shown}
use Rattle.cmwq_verdict.specs.declared.shown.Shown.TheVariants as way

-- in a word, in a line that is shown whole, and as a blank below it
abbrev pub shown_as : Shown → ℕ → ℕ
shown_as way.Visible = visible
shown_as way.Seen = seen
shown_as way.Blank = blank
