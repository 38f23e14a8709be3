use Rattle.std.proofs.Common.{◌≡◌, ◌++◌, ap, rules, ◌∙◌}
use Rattle.cmwq_types.specs.Contents.{ScenarioContents}
use Rattle.cmwq_explore.specs.Plans.{PlanContents}
use Rattle.cmwq_explored.proofs.FoundLemmas.{found_names, shown}
use Rattle.cmwq_explored.proofs.found.found_text.Goals as goal

pub notes-requires-clause-names : goal.notes-requires-clause-names
notes-requires-clause-names g c =
    let plan = c.args.plan.now.value in
    let same = c.scenario-scenario.ensures.scenario ∙ ap (λ (p : PlanContents). p.scenario) c.deref.ensures in
    found_names plan.scenario plan.before c.args.order.now c.requires.valid c.requires.few c.in_ok-told.told.steps.items c.deref-2.result.now c.scenario-scenario.result.now
    c.in_ok-found.found c.in_ok-text.text.items c.deref-3.result.now c.in_ok-told.ensures.steps same c.deref-2.ensures.value c.in_ok-found.ensures
    c.in_ok-text.ensures.spells
    (c.deref-3.ensures.value ∙ ap (λ (S : ScenarioContents). S.actors) (c.scenario.view_is ∙ same))
    c.names_fit.ensures

pub returns : goal.returns
returns g c =
    let plan = c.args.plan.now.value in
    let same = c.scenario-scenario.ensures.scenario ∙ ap (λ (p : PlanContents). p.scenario) c.deref.ensures in
    let told = c.in_ok-told.told in
    let whole : c.extend_from_slice.new.self.items ≡ c.in_ok-text.text.items ++ c.in_ok-notes.notes = search rules in
    shown plan.scenario plan.before c.args.order.now c.requires.valid c.requires.few c.args.question c.requires.reached.0 told.steps.items c.deref-2.result.now told.rests.items
    c.scenario-scenario.result.now c.in_ok-found.found c.in_ok-text.text.items c.in_ok-notes.notes c.extend_from_slice.new.self.items c.requires.reached.1
    c.in_ok-told.ensures.steps (c.in_ok-told.ensures.rests c.requires.reached.0 c.requires.reached.1) same c.deref-2.ensures.value c.in_ok-found.ensures
    c.in_ok-text.ensures.listing c.in_ok-text.ensures.spells c.in_ok-notes.ensures.text c.in_ok-notes.ensures.notes whole
    c.orders_are_runs.ensures c.notes_may_follow_a_listing.ensures
