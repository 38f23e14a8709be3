use Rattle.std.proofs.Common.{◌≡◌, ◌++◌, drop}
use Rattle.cmwq_slices.specs.Slices.{slices_to}
use Rattle.cmwq_slices.proofs.phases.push_all.Given as goal

-- what was pushed so far, and what is left, make the whole
abbrev pub invariant-loop-w : goal.invariant-loop-w
invariant-loop-w l = l.slices.items ++ slices_to l.time l.w (drop l.w l.all) ≡ l.fn.slices.items ++ slices_to l.time 0 l.all
