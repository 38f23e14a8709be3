use Rattle.cmwq_ledger.specs.Heads.{HasHeadsBelow}
use Rattle.cmwq_ledger.proofs.heads.find_heads.Given as goal

abbrev pub invariant-loop-w : goal.invariant-loop-w
invariant-loop-w g l = HasHeadsBelow (g.R.Reads.loaded l.machine) (g.R.Reads.state l.machine) l.w l.heads
