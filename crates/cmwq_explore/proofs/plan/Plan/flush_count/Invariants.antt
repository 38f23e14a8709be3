use Rattle.std.proofs.Common.{◌≡◌, take}
use Rattle.cmwq_explore.specs.Plans.{flush_count}
use Rattle.cmwq_explore.proofs.plan.Plan.flush_count.Given as goal

-- of the actors so far
abbrev pub invariant-loop-lines : goal.invariant-loop-lines
invariant-loop-lines l = l.count ≡ flush_count (take l.lines-index l.self.scenario.actors)
