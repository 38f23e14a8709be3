-- What a caller cites of a scenario that is settled where that is asked: it comes to one scenario, or there is one reason why not.
use Rattle.std.proofs.Common.{◌≡◌, ℕ, Bool, true, false, ap, sym, ◌∙◌}
use Rattle.cmwq_types.specs.Contents.{ScenarioContents}
use Rattle.cmwq_asm.specs.declared.fault.AsmError.{AsmError}
use Rattle.cmwq_play.proofs.TextLemmas.{not_refused, refused_once}
use Rattle.cmwq_streams.specs.declared.error.PlayError.{PlayError}
use Rattle.cmwq_streams.specs.declared.error.PlayError.TheVariants as errors
use Rattle.cmwq_settle.specs.Settled.{IsSettledIf, IsUnsettledIf, settled_scenario}
use Rattle.cmwq_settle.proofs.AnswerLemmas.{no_text-unsettleable, settled-once, settled_scenario-well, unsettleable-once}

module _ (S : ScenarioContents) where
  pub settled_if-once : (settle : Bool) (T U : ScenarioContents) → IsSettledIf settle S T → IsSettledIf settle S U → T ≡ U
  settled_if-once true T U first second =
      let same = settled-once S first.0 second.0 first.1 second.1 first.2 second.2 in
      first.4 ∙ ap (λ (n : ℕ). settled_scenario S n) same.1 ∙ sym second.4
  settled_if-once false T U first second = first.0 ∙ sym second.0

  -- nothing is told of a scenario that comes to one
  pub settled_if-well : (settle : Bool) (T : ScenarioContents) → IsSettledIf settle S T → (error : PlayError) → IsUnsettledIf settle S error → ⊥
  settled_if-well true T settled error told = settled_scenario-well S T settled error told
  settled_if-well false T settled error told = not_refused S error settled.1 told

  pub unsettled_if-once : (settle : Bool) (error fault : PlayError) → IsUnsettledIf settle S error → IsUnsettledIf settle S fault → error ≡ fault
  unsettled_if-once true error fault first second = unsettleable-once S error fault first second
  unsettled_if-once false error fault first second = refused_once S error fault first second

  -- it is no fault of the text, and of no stream
  pub no_text-unsettled_if : (settle : Bool) (fault : AsmError) → IsUnsettledIf settle S (errors.Asm fault) → ⊥
  no_text-unsettled_if true fault told = no_text-unsettleable S fault told
  no_text-unsettled_if false fault told = told

  pub no_read-unsettled_if : (settle : Bool) → IsUnsettledIf settle S errors.Read → ⊥
  no_read-unsettled_if true told = told
  no_read-unsettled_if false told = told

  pub no_write-unsettled_if : (settle : Bool) → IsUnsettledIf settle S errors.Write → ⊥
  no_write-unsettled_if true told = told
  no_write-unsettled_if false told = told
