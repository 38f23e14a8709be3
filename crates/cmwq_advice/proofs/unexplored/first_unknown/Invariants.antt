use Rattle.std.proofs.Common.{◌≡◌, drop}
use Rattle.std.specs.Prelude.{map}
use Rattle.cmwq_advice.specs.Advice.{first_unknown}
use Rattle.cmwq_advice.proofs.unexplored.first_unknown.Given as goal

-- what is left tells the first
abbrev pub invariant-loop-name : goal.invariant-loop-name
invariant-loop-name l =
    first_unknown (map (λ name. name.now) l.known) (map (λ name. name.now) (drop l.name-index l.names))
    ≡ first_unknown (map (λ name. name.now) l.known) (map (λ name. name.now) l.names)
