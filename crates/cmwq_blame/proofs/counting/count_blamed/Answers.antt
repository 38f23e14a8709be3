use Rattle.std.proofs.Common.{Bool, Some, ◌&&◌, ◌∙◌, ap, arith, nat_lt}
use Rattle.std.proofs.lemmas.Bool.{lt-ltb}
use Rattle.cmwq_blame.proofs.CountingLemmas.{blamed-later}
use Rattle.cmwq_blame.proofs.counting.count_blamed.Goals as goal

pub count_one-requires-clause-within : goal.count_one-requires-clause-within
count_one-requires-clause-within g c =
    let S = g.R.Reads.loaded c.args.machine.now in
    let s = g.R.Reads.state c.args.machine.now in
    let w = c.args.work.0 in
    let v = c.loop-v.v in
    let there = ap (λ (b : Bool). b && nat_lt v c.args.works) (lt-ltb w c.args.works c.requires.there) ∙ lt-ltb v c.args.works c.loop-v-test.true in
    let before = c.loop-v.invariant w (Some v) there in
    let none = blamed-later S s w c.args.reason v in
    let few = c.requires.within (Some v) there in
    omega (arith, before, none, few)
