-- How great counts are. No public clause cites this but to say that there is room for more.
use Rattle.std.specs.Prelude.{ℕ, ◌≤◌, Option}
use Rattle.cmwq_blame.specs.Blame.{BlameContents, waited}

-- no work waited longer for one
abbrev pub IsBlameWithin : ℕ → BlameContents → Type 0
IsBlameWithin n B = (w : ℕ) (other : Option ℕ) → waited B w other ≤ n
