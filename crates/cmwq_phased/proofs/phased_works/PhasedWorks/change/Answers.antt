use Rattle.std.proofs.Common.{rules, ◌<◌, ◌^◌, IfSome, length, subst, sym}
use Rattle.cmwq_phased.specs.Runs.{HasOwnStamp}
use Rattle.cmwq_phased.specs.PhasedContents.{PhasedContents}
use Rattle.cmwq_phased.proofs.ChangeLemmas.{runs_with}
use Rattle.cmwq_phased.proofs.phased_works.PhasedWorks.change.Goals as goal

pub invariant_of-self : goal.invariant_of-self
invariant_of-self c =
    let S = c.self.inside.scenario.value in
    let runs = c.self.inside.runs.items in
    let small : IfSome c.args.run (λ r. r.stamp < 2 ^ 64) = search rules in
    let inside : c.args.w < length S.works = subst (λ (m : PhasedContents). c.args.w < length m.scenario.works) (sym c.self.view_is) c.requires.work in
    let own : HasOwnStamp runs c.args.w c.args.run = subst (λ (m : PhasedContents). HasOwnStamp m.runs c.args.w c.args.run) (sym c.self.view_is) c.requires.own_stamp in
    record {
      are_runs = runs_with S runs c.args.w c.args.run c.self.invariant.are_runs inside small own;
      are_lined = rw (c.deref.ensures, c.deref-2.ensures.value) at c.line_up.ensures.lined;
      are_timed = rw c.deref-3.ensures.value at c.set_alarm.ensures.timed;
      are_counted = rw (c.deref-4.ensures, c.deref-5.ensures.value) at c.recount.ensures.counted;
    }
