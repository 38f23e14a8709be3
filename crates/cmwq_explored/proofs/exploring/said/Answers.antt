use Rattle.std.proofs.Common.{arith, subst}
use Rattle.cmwq_explore.specs.Outcomes.{IsShort}
use Rattle.cmwq_explored.proofs.exploring.said.Goals as goal

pub found_text-requires-clause-few : goal.found_text-requires-clause-few
found_text-requires-clause-few g c =
    let few = subst IsShort c.in-Found.is c.requires.short in
    let long = c.deref.ensures.len in
    omega (arith, few, long)
