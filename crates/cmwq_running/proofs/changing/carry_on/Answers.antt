use Rattle.std.proofs.Common.{Some, ℕ, length, sym, ap, subst, ◌∙◌}
use Rattle.std.proofs.lemmas.List.{length-set}
use Rattle.cmwq_types.specs.Contents.{ScenarioContents}
use Rattle.cmwq_phased.specs.PhasedContents.{PhasedContents}
use Rattle.cmwq_phased.specs.Phases.{shown_all}
use Rattle.cmwq_phased.specs.Runs.{run_at}
use Rattle.cmwq_running.specs.Heads.{AreTimely, HaveHeads, IsBeside}
use Rattle.cmwq_running.proofs.HeadLemmas.{balanced, beside_ran, change_of, change_have_heads}
use Rattle.cmwq_running.proofs.PaceLemmas.{within_of}
use Rattle.cmwq_running.proofs.ShownLemmas.{length_of_shown, seen_is, shown_set}
use Rattle.cmwq_running.proofs.StepLemmas.{timely_set}
use Rattle.cmwq_running.proofs.changing.carry_on.Goals as goal

pub balance-requires-clause-timely : goal.balance-requires-clause-timely
balance-requires-clause-timely c =
    let old = c.args.works.now in
    subst (λ (m : PhasedContents). AreTimely c.args.time m.runs) (sym c.carry_on.ensures)
    (timely_set c.args.time old.runs c.args.w c.args.run (within_of old.runs c.args.w c.args.was c.requires.was) c.requires.kept.timely c.requires.timely)

pub balance-requires-clause-heads : goal.balance-requires-clause-heads
balance-requires-clause-heads c =
    let old = c.args.works.now in
    let change = change_of old.scenario old.runs c.args.w (Some c.args.run) c.requires.work c.requires.kept.headed.long c.own_stamps.ensures c.requires.still c.requires.last in
    subst (λ (m : PhasedContents). HaveHeads m.scenario m.runs) (sym c.carry_on.ensures) (change_have_heads old.scenario old.runs c.args.w (Some c.args.run) change c.requires.kept.headed.heads)

pub returns-clause-seen : goal.returns-clause-seen
returns-clause-seen c =
    seen_is c.args.time c.balance.new.works _ _ (c.balance.ensures.scenario ∙ ap (λ (m : PhasedContents). m.scenario) c.carry_on.ensures)
    (c.balance.ensures.shown ∙ ap (λ (m : PhasedContents). shown_all c.args.time m.runs) c.carry_on.ensures
    ∙ shown_set c.args.time c.args.works.now.runs c.args.w (Some c.args.run))

pub returns-clause-kept : goal.returns-clause-kept
returns-clause-kept c =
    let old = c.args.works.now in
    let change = change_of old.scenario old.runs c.args.w (Some c.args.run) c.requires.work c.requires.kept.headed.long c.own_stamps.ensures c.requires.still c.requires.last in
    let scenario = c.balance.ensures.scenario ∙ ap (λ (m : PhasedContents). m.scenario) c.carry_on.ensures in
    record {
      early = c.requires.kept.early;
      timely = c.balance.ensures.timely;
      headed = record {
        long =
            length_of_shown c.args.time c.balance.new.works.runs c.carry_on.new.self.runs c.balance.ensures.shown
            ∙ ap (λ (m : PhasedContents). length m.runs) c.carry_on.ensures ∙ length-set old.runs c.args.w (Some c.args.run) ∙ c.requires.kept.headed.long
            ∙ ap (λ (S : ScenarioContents). length S.works) (sym scenario);
        heads = c.balance.ensures.heads;
        going = balanced old.scenario old.runs c.args.w (Some c.args.run) c.args.run.pool c.carry_on.new.self c.balance.new.works change c.carry_on.ensures
            (λ pool beside. subst (λ (high : ℕ). IsBeside old.scenario high pool) (sym c.requires.pool) (beside_ran old.scenario (run_at old.runs c.args.w) c.args.was pool c.requires.was beside))
            (λ pool beside. beside) c.requires.kept.headed.going c.balance.ensures.going;
      };
    }
