use Rattle.std.proofs.Common.{rules, ◌≡◌, ◌<◌, ◌^◌, List, Option, Some, length, set, ap, subst, sym, ◌∙◌}
use Rattle.std.proofs.lemmas.List.{length-set, with_items_is}
use Rattle.std.specs.Vec.{with_items}
use Rattle.cmwq_phased.specs.Runs.{HasOwnStamp}
use Rattle.cmwq_phased.specs.declared.run.Run.{Run}
use Rattle.cmwq_phased.specs.Indexed.{AreIndexed}
use Rattle.cmwq_phased.specs.PhasedContents.{PhasedContents}
use Rattle.cmwq_phased.proofs.ChangeLemmas.{runs_with}
use Rattle.cmwq_phased.proofs.phased_works.PhasedWorks.carry_on.Goals as goal

pub invariant_of-self : goal.invariant_of-self
invariant_of-self c =
    let S = c.self.inside.scenario.value in
    let runs = c.self.inside.runs.items in
    let run = Some c.args.run in
    let small : c.args.run.stamp < 2 ^ 64 = search rules in
    let inside : c.args.w < length S.works = subst (λ (m : PhasedContents). c.args.w < length m.scenario.works) (sym c.self.view_is) c.requires.work in
    let own : HasOwnStamp runs c.args.w run = subst (λ (m : PhasedContents). HasOwnStamp m.runs c.args.w run) (sym c.self.view_is) c.requires.own_stamp in
    let written : c.write_on.new.runs ≡ set runs c.args.w run = c.write_on.ensures ∙ ap (λ (rs : List (Option Run)). set rs c.args.w run) c.deref_mut.ensures.value in
    let long = ap length c.write_on.ensures ∙ length-set c.deref_mut.result.now c.args.w run ∙ c.deref_mut.ensures.len in
    let items : (with_items c.self.inside.runs c.write_on.new.runs).items ≡ set runs c.args.w run = with_items_is c.self.inside.runs c.write_on.new.runs long ∙ written in
    subst (λ (rs : List (Option Run)). AreIndexed S rs c.line_up_in_pool.new.lines c.set_alarm.new.alarms c.recount_in_place.new.self) (sym items)
    (record {
      are_runs = runs_with S runs c.args.w run c.self.invariant.are_runs inside small own;
      are_lined = rw (c.deref.ensures, c.deref-2.ensures.value) at c.line_up_in_pool.ensures.lined;
      are_timed = rw c.deref-3.ensures.value at c.set_alarm.ensures.timed;
      are_counted = rw (c.deref-4.ensures, c.deref-5.ensures.value) at c.recount_in_place.ensures.counted;
    })
