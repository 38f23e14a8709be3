use Rattle.std.proofs.Common.{None, Some, length, sym, ap, subst, ◌∙◌}
use Rattle.std.proofs.lemmas.List.{length-set}
use Rattle.cmwq_types.specs.Contents.{ScenarioContents}
use Rattle.cmwq_phased.specs.PhasedContents.{PhasedContents}
use Rattle.cmwq_phased.specs.Phases.{shown_all}
use Rattle.cmwq_phased.specs.Runs.{run_at}
use Rattle.cmwq_running.specs.Heads.{HaveHeads}
use Rattle.cmwq_running.specs.RunningContents.{ready_as}
use Rattle.cmwq_running.proofs.HeadLemmas.{balanced, beside_ran, change_of, change_have_heads}
use Rattle.cmwq_running.proofs.ShownLemmas.{length_of_shown, seen_is, shown_set}
use Rattle.cmwq_running.proofs.StepLemmas.{head_ran, head_within}
use Rattle.cmwq_running.proofs.changing.end.Goals as goal

pub end-requires-clause-work : goal.end-requires-clause-work
end-requires-clause-work c = head_within c.args.time c.args.works.now c.args.w c.args.r c.requires.kept c.requires.running c.requires.head

pub end-requires-clause-was : goal.end-requires-clause-was
end-requires-clause-was c = head_ran c.args.time c.args.works.now c.args.w c.args.r c.requires.kept c.requires.running c.requires.head ∙ ap Some (sym c.ready_as.ensures)

pub balance-requires-clause-heads : goal.balance-requires-clause-heads
balance-requires-clause-heads c =
    let old = c.args.works.now in
    let change = change_of old.scenario old.runs c.args.w None (head_within c.args.time c.args.works.now c.args.w c.args.r c.requires.kept c.requires.running c.requires.head) c.requires.kept.headed.long c.own_stamps.ensures tt tt in
    subst (λ (m : PhasedContents). HaveHeads m.scenario m.runs) (sym c.end.ensures) (change_have_heads old.scenario old.runs c.args.w None change c.requires.kept.headed.heads)

pub returns-clause-seen : goal.returns-clause-seen
returns-clause-seen c =
    seen_is c.args.time c.balance.new.works _ _ (c.balance.ensures.scenario ∙ ap (λ (m : PhasedContents). m.scenario) c.end.ensures)
    (c.balance.ensures.shown ∙ ap (λ (m : PhasedContents). shown_all c.args.time m.runs) c.end.ensures
    ∙ shown_set c.args.time c.args.works.now.runs c.args.w None)

pub returns-clause-kept : goal.returns-clause-kept
returns-clause-kept c =
    let old = c.args.works.now in
    let change = change_of old.scenario old.runs c.args.w None (head_within c.args.time c.args.works.now c.args.w c.args.r c.requires.kept c.requires.running c.requires.head) c.requires.kept.headed.long c.own_stamps.ensures tt tt in
    let scenario = c.balance.ensures.scenario ∙ ap (λ (m : PhasedContents). m.scenario) c.end.ensures in
    record {
      early = c.requires.kept.early;
      timely = c.balance.ensures.timely;
      headed = record {
        long =
            length_of_shown c.args.time c.balance.new.works.runs c.end.new.self.runs c.balance.ensures.shown
            ∙ ap (λ (m : PhasedContents). length m.runs) c.end.ensures ∙ length-set old.runs c.args.w None ∙ c.requires.kept.headed.long
            ∙ ap (λ (S : ScenarioContents). length S.works) (sym scenario);
        heads = c.balance.ensures.heads;
        going = balanced old.scenario old.runs c.args.w None c.args.r.pool c.end.new.self c.balance.new.works change c.end.ensures
            (λ pool. beside_ran old.scenario (run_at old.runs c.args.w) (ready_as c.args.r) pool (head_ran c.args.time c.args.works.now c.args.w c.args.r c.requires.kept c.requires.running c.requires.head)) (λ pool none. absurd none)
            c.requires.kept.headed.going c.balance.ensures.going;
      };
    }
