use Rattle.std.proofs.Common.{◌≡◌, ◌++◌, take}
use Rattle.std.specs.Prelude.{map}
use Rattle.cmwq_advice.specs.Advice.{actors_preceding}
use Rattle.cmwq_advice.proofs.unexplored.push_preceding.Given as goal

-- those of the pairs so far are there
abbrev pub invariant-loop-pair : goal.invariant-loop-pair
invariant-loop-pair l = map (λ name. name.now) l.names.items ≡ map (λ name. name.now) l.fn.names.items ++ actors_preceding (take l.pair-index l.pairs)
