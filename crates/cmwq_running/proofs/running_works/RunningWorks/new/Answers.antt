use Rattle.std.proofs.Common.{List, None, Option, length, replicate, ap, sym, ◌∙◌}
use Rattle.cmwq_types.specs.Contents.{ScenarioContents}
use Rattle.cmwq_phased.specs.Phases.{shown_all}
use Rattle.cmwq_phased.specs.declared.run.Run.{Run}
use Rattle.cmwq_running.proofs.HeadLemmas.{none_kept}
use Rattle.cmwq_running.proofs.ShownLemmas.{none_shown, seen_is}
use Rattle.cmwq_running.proofs.running_works.RunningWorks.new.Goals as goal

pub returns : goal.returns
returns c =
    seen_is 0 c.in_ok-works.works _ _ c.in_ok-works.ensures.scenario
    (ap (λ (rs : List (Option Run)). shown_all 0 rs) c.in_ok-works.ensures.idle ∙ none_shown 0 (length c.args.scenario.value.works))

pub invariant_of-result : goal.invariant_of-result
invariant_of-result c =
    none_kept c.in_ok-works.works (c.in_ok-works.ensures.idle ∙ ap (λ (S : ScenarioContents). replicate (length S.works) None) (sym c.in_ok-works.ensures.scenario))
