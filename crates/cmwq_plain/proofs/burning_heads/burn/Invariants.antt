use Rattle.std.proofs.Common.{◌≡◌, ◌++◌, take, drop}
use Rattle.cmwq_table.specs.Moves.{burned}
use Rattle.cmwq_plain.specs.BurningHeads.{burns_beside}
use Rattle.cmwq_plain.proofs.burning_heads.burn.Given as goal

-- what was written, and what is left once it burns, make the whole
abbrev pub invariant-loop-w : goal.invariant-loop-w
invariant-loop-w l =
    take l.w l.running ++ burned (burns_beside l.heads l.unbound) l.w (drop l.w l.running) ≡ burned (burns_beside l.heads l.unbound) 0 l.fn.running
