use Rattle.std.proofs.Common.{arith}
use Rattle.cmwq_phased.specs.Indexes.{rescued_classes}
use Rattle.cmwq_phased.proofs.CountLemmas.{few_counted}
use Rattle.cmwq_phased.proofs.phased_works.PhasedWorks.rescued_of.Goals as goal

pub returns-clause-few : goal.returns-clause-few
returns-clause-few c =
    let S = c.self.inside.scenario.value in
    let runs = c.self.inside.runs.items in
    omega (arith, c.at.ensures, c.from-2.ensures, few_counted S runs c.self.inside.counts.rescued (rescued_classes S runs) c.from.result c.args.self.now c.self.invariant.are_counted.rescued c.self.view_is)
