-- Whoever runs the text of the settled scenario gets the lines of the run to quiet.
use Rattle.std.proofs.Common.{◌≡◌, ◌≤◌, ℕ, List, [], ◌∷◌, Some, refl, ap, ◌∙◌, sym, subst, length}
use Rattle.cmwq_types.specs.Contents.{ActorContents, ScenarioContents}
use Rattle.cmwq_types.specs.Faults.{IsValid}
use Rattle.cmwq_types.specs.Listing.{listing}
use Rattle.cmwq_types.specs.Scenario.{expand}
use Rattle.cmwq_types.specs.Values.{IsScenario}
use Rattle.cmwq_types.specs.declared.instr.Instr.{Instr}
use Rattle.cmwq_types.specs.declared.limits.TheConstants.{MAX_LINES}
use Rattle.cmwq_table.specs.Events.{events}
use Rattle.cmwq_grammar.specs.Grammar.{Spells}
use Rattle.cmwq_play.specs.Runs.{IsRunOf}
use Rattle.cmwq_play.specs.PlayTexts.{IsRun}
use Rattle.cmwq_settle.specs.Counting.{with_one_actor}
use Rattle.cmwq_settle.specs.Settled.{IsSettled, IsSettledBy, with_nexts}
use Rattle.cmwq_settle.specs.Settling.{IsSettledOutput, IsSettledRun, IsSettledText, followed}
use Rattle.cmwq_settle.proofs.AnswerLemmas.{settled-once}
use Rattle.cmwq_settle.proofs.LineLemmas.{expand-with_nexts}
use Rattle.cmwq_settle.proofs.OtherActors.{same-events, settled-is, settled-scenario, settled-valid}
use Rattle.cmwq_settle.proofs.SettledRuns.{few}

-- the text of the scenario with the longer actor, and what running it prints
runs : (S : ScenarioContents) (actor : ActorContents) (n : ℕ) (printed : List ℕ) → IsValid S → IsScenario S → IsSettledBy S actor n → length (with_nexts n actor).lines ≤ MAX_LINES
    → ((T : ScenarioContents) → IsValid T → IsScenario T → Spells (listing T) T) → printed ≡ events S (followed actor n) → IsRun (Some (listing (with_one_actor S (with_nexts n actor)))) printed
runs S actor n printed valid scenario settled fits spells is =
    let longer = with_nexts n actor in
    let T = with_one_actor S longer in
    let valid_then = settled-valid S actor n settled.runs.alone valid fits in
    let gives : events S (followed actor n) ≡ events T (expand longer) =
    ap (λ (instrs : List Instr). events S instrs) (sym (expand-with_nexts n actor)) ∙ sym (same-events S longer (expand longer))
    in (
      T,
      record { valid = valid_then; spelled = spells T valid_then (settled-scenario S actor n settled.runs.alone scenario) },
      (longer, record { alone = refl; few = few S actor n settled }, is ∙ gives),
    )

pub prints : (text written printed : List ℕ) → ((T : ScenarioContents) → IsValid T → IsScenario T → Spells (listing T) T) → ((S T : ScenarioContents) → Spells text S → Spells text T → S ≡ T)
    → IsSettledText (Some text) written → IsSettledRun (Some text) printed → IsRun (Some written) printed
prints text written printed spells one settled run =
    let S = settled.0 in
    let T = settled.2.0 in
    let scenario = settled.2.1 in
    let actor = scenario.0 in
    let n = scenario.1 in
    let output = subst (λ (U : ScenarioContents). IsSettledOutput U printed) (one run.0 S run.1.spelled settled.1.spelled) run.2 in
    let same = settled-once S output.0 actor output.1 n output.2 scenario.2 in
    let lines = output.3 ∙ ap (λ (a : ActorContents). events S (followed a output.1)) same.0 ∙ ap (λ (k : ℕ). events S (followed actor k)) same.1 in
    let listed : listing (with_one_actor S (with_nexts n actor)) ≡ written =
    ap listing (sym (settled-is S actor n scenario.2.runs.alone)) ∙ ap listing (sym scenario.4) ∙ sym settled.2.2
    in
    subst (λ (bytes : List ℕ). IsRun (Some bytes) printed) listed
    (runs S actor n printed settled.1.valid settled.1.spelled.is_text.scenario scenario.2 scenario.3 spells lines)
