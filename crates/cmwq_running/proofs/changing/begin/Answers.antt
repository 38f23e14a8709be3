use Rattle.std.proofs.Common.{◌<◌, Some, ℕ, length, sym, ap, subst, ◌∙◌}
use Rattle.std.proofs.lemmas.List.{length-set}
use Rattle.cmwq_types.specs.Contents.{ScenarioContents}
use Rattle.cmwq_phased.specs.PhasedContents.{PhasedContents}
use Rattle.cmwq_phased.specs.Phases.{shown_all}
use Rattle.cmwq_phased.specs.Runs.{run_at}
use Rattle.cmwq_running.specs.Heads.{AreTimely, HaveHeads}
use Rattle.cmwq_running.proofs.HeadLemmas.{balanced, beside_none, change_of, change_have_heads}
use Rattle.cmwq_running.proofs.ShownLemmas.{length_of_shown, seen_is, shown_set}
use Rattle.cmwq_running.proofs.StepLemmas.{timely_set}
use Rattle.cmwq_running.proofs.changing.begin.Goals as goal

pub balance-requires-clause-timely : goal.balance-requires-clause-timely
balance-requires-clause-timely c =
    let old = c.args.works.now in
    subst (λ (m : PhasedContents). AreTimely c.args.time m.runs) (sym c.begin.ensures)
    (timely_set c.args.time old.runs c.args.w c.args.first (subst (λ (n : ℕ). c.args.w < n) (sym c.requires.kept.headed.long) c.requires.work) c.requires.kept.timely c.requires.timely)

pub balance-requires-clause-heads : goal.balance-requires-clause-heads
balance-requires-clause-heads c =
    let old = c.args.works.now in
    let change = change_of old.scenario old.runs c.args.w (Some c.args.first) c.requires.work c.requires.kept.headed.long c.own_stamps.ensures c.requires.still c.requires.last in
    subst (λ (m : PhasedContents). HaveHeads m.scenario m.runs) (sym c.begin.ensures) (change_have_heads old.scenario old.runs c.args.w (Some c.args.first) change c.requires.kept.headed.heads)

pub returns-clause-seen : goal.returns-clause-seen
returns-clause-seen c =
    seen_is c.args.time c.balance.new.works _ _ (c.balance.ensures.scenario ∙ ap (λ (m : PhasedContents). m.scenario) c.begin.ensures)
    (c.balance.ensures.shown ∙ ap (λ (m : PhasedContents). shown_all c.args.time m.runs) c.begin.ensures
    ∙ shown_set c.args.time c.args.works.now.runs c.args.w (Some c.args.first))

pub returns-clause-kept : goal.returns-clause-kept
returns-clause-kept c =
    let old = c.args.works.now in
    let change = change_of old.scenario old.runs c.args.w (Some c.args.first) c.requires.work c.requires.kept.headed.long c.own_stamps.ensures c.requires.still c.requires.last in
    let scenario = c.balance.ensures.scenario ∙ ap (λ (m : PhasedContents). m.scenario) c.begin.ensures in
    record {
      early = c.requires.kept.early;
      timely = c.balance.ensures.timely;
      headed = record {
        long =
            length_of_shown c.args.time c.balance.new.works.runs c.begin.new.self.runs c.balance.ensures.shown
            ∙ ap (λ (m : PhasedContents). length m.runs) c.begin.ensures ∙ length-set old.runs c.args.w (Some c.args.first) ∙ c.requires.kept.headed.long
            ∙ ap (λ (S : ScenarioContents). length S.works) (sym scenario);
        heads = c.balance.ensures.heads;
        going = balanced old.scenario old.runs c.args.w (Some c.args.first) c.args.first.pool c.begin.new.self c.balance.new.works change c.begin.ensures
            (λ pool. beside_none old.scenario (run_at old.runs c.args.w) c.args.first.pool pool c.requires.absent) (λ pool beside. beside)
            c.requires.kept.headed.going c.balance.ensures.going;
      };
    }
