use Rattle.std.proofs.Common.{arith}
use Rattle.cmwq_phased.specs.Indexes.{running_classes}
use Rattle.cmwq_phased.proofs.CountLemmas.{few_counted}
use Rattle.cmwq_phased.proofs.phased_works.PhasedWorks.running_in.Goals as goal

pub returns-clause-few : goal.returns-clause-few
returns-clause-few c =
    let S = c.self.inside.scenario.value in
    let runs = c.self.inside.runs.items in
    omega (arith, c.at.ensures, c.from.ensures, few_counted S runs c.self.inside.counts.running (running_classes S runs) c.class_in.result c.args.self.now c.self.invariant.are_counted.running c.self.view_is)
