use Rattle.std.proofs.Common.{None, arith}
use Rattle.std.proofs.lemmas.Bool.{lt-ltb}
use Rattle.cmwq_blame.proofs.CountingLemmas.{blamed-nobody}
use Rattle.cmwq_blame.proofs.counting.count_reason.Goals as goal

pub count_one-requires-clause-within : goal.count_one-requires-clause-within
count_one-requires-clause-within g c =
    let S = g.R.Reads.loaded c.args.machine.now in
    let s = g.R.Reads.state c.args.machine.now in
    let w = c.args.work.0 in
    let there = lt-ltb w c.args.works c.requires.there in
    let before = c.count_blamed.ensures w None there in
    let none = blamed-nobody S s w c.args.reason c.args.works in
    let few = c.requires.within None there in
    omega (arith, before, none, few)
