use Rattle.std.proofs.Common.{◌≡◌, drop}
use Rattle.cmwq_table.specs.Counts.{or_else}
use Rattle.cmwq_picture.specs.Arming.{armer}
use Rattle.cmwq_picture.proofs.arming.armer.Given as goal

-- the last among those that are left, else the last that was found so far
abbrev pub invariant-loop-arming : goal.invariant-loop-arming
invariant-loop-arming l = or_else (armer (drop l.arming-index l.armed) l.w l.pending) l.by ≡ armer l.armed l.w l.pending
