use Rattle.std.proofs.Common.{◌≡◌, ◌<◌, false, ℕ}
use Rattle.cmwq_blame.specs.Blame.{blames}
use Rattle.cmwq_blame.proofs.blamed.blames_some.Given as goal

-- those below aren't blamed
abbrev pub invariant-loop-v : goal.invariant-loop-v
invariant-loop-v g l = (v : ℕ) → v < l.v → blames (g.R.Reads.loaded l.machine) (g.R.Reads.state l.machine) l.w.0 l.reason v ≡ false
