-- A settled scenario can be run.
use Rattle.std.proofs.Common.{◌≡◌, ◌≤◌, ℕ, length, length-append, replicate, arith, refl, sym, ap, ◌∙◌, subst}
use Rattle.std.proofs.lemmas.List.{length-replicate}
use Rattle.cmwq_types.specs.Contents.{ActorContents, ScenarioContents}
use Rattle.cmwq_types.specs.Scenario.{expand}
use Rattle.cmwq_types.specs.declared.instr.Instr.TheVariants.{Next}
use Rattle.cmwq_types.specs.declared.limits.TheConstants.{MAX_HISTORY}
use Rattle.cmwq_play.specs.Runs.{CanRun}
use Rattle.cmwq_settle.specs.Settled.{IsSettled, IsSettledBy, with_nexts}
use Rattle.cmwq_settle.proofs.LineLemmas.{expand-with_nexts}
use Rattle.cmwq_settle.proofs.OtherActors.{settled-is}

-- all its instructions are no more than one run issues
pub few : (S : ScenarioContents) (actor : ActorContents) (n : ℕ) → IsSettledBy S actor n → length (expand (with_nexts n actor)) ≤ MAX_HISTORY
few S actor n settled =
    let long = ap length (expand-with_nexts n actor) ∙ length-append (expand actor) (replicate n Next) in
    omega (arith, long, length-replicate n Next, settled.settles.within, settled.runs.few)

pub settled-can : (S T : ScenarioContents) → IsSettled S T → CanRun T
settled-can S T settled =
    let actor = settled.0 in
    let n = settled.1 in
    subst (λ (U : ScenarioContents). CanRun U) (sym (settled.4 ∙ settled-is S actor n settled.2.runs.alone))
    (with_nexts n actor, record { alone = refl; few = few S actor n settled.2 })
