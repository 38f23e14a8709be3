use Rattle.std.proofs.Common.{◌-◌}
use Rattle.cmwq_lines.proofs.RepeatedLemmas.{HasCopied}
use Rattle.cmwq_lines.proofs.block.copy_on.Given as goal

-- so far the text stands several times
abbrev pub invariant-loop-at : goal.invariant-loop-at
invariant-loop-at l = HasCopied l.fn.bytes l.bytes l.start l.there l.end l.at

abbrev pub decreases-loop-at : goal.decreases-loop-at
decreases-loop-at l = l.end - l.at
