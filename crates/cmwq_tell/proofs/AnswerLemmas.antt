-- What is told of a text's run, or of its settled run, and the one reason why nothing is.
use Rattle.std.proofs.Common.{◌≡◌, ◌≢◌, ◌≤◌, ◌⊎◌, inl, inr, ℕ, List, length, Bool, Option, None, IfSome, Result, Ok, Err, IfErr, ◌∙◌, sym, subst}
use Rattle.cmwq_types.specs.Contents.{ActorContents, ScenarioContents}
use Rattle.cmwq_types.specs.Scenario.{expand}
use Rattle.cmwq_types.specs.declared.instr.Instr.{Instr}
use Rattle.cmwq_types.specs.declared.limits.TheConstants.{MAX_HISTORY}
use Rattle.cmwq_grammar.specs.Grammar.{Spells}
use Rattle.cmwq_play.specs.Commands.{Answers, IsOutside, Writes}
use Rattle.cmwq_play.specs.PlayTexts.{IsSpelled, IsTextFault}
use Rattle.cmwq_play.specs.Framing.{IsTextBy, framed_text}
use Rattle.cmwq_play.proofs.CommandLemmas.{answers_outside, writes_more}
use Rattle.cmwq_play.proofs.TextLemmas.{answers_told}
use Rattle.cmwq_settle.specs.Settled.{IsSettledIf, IsUnsettledIf}
use Rattle.cmwq_settle.proofs.CallerLemmas.{no_read-unsettled_if, no_text-unsettled_if, no_write-unsettled_if, settled_if-well, unsettled_if-once}
use Rattle.cmwq_streams.specs.Sending.{IsSendError}
use Rattle.cmwq_streams.specs.declared.error.PlayError.{PlayError}
use Rattle.cmwq_streams.specs.declared.error.PlayError.TheVariants as errors
use Rattle.cmwq_table.specs.State.{start}
use Rattle.cmwq_tell.specs.RunTold.{IsToldFault, IsToldIf, IsToldRun, tell_text}
use Rattle.cmwq_tell.specs.declared.told.Whole.{Whole}
use Rattle.cmwq_tell.proofs.TellLemmas.{closing, keeping, opening, telling, whole-told}

-- nothing but a failed sending is told behind the writing
pub sending-other : {A : Type 0} (r : Result A PlayError) → IfErr r (λ error. IsSendError error) → r ≢ Err errors.NeverQuiet
sending-other (Ok x) why is = cc
sending-other (Err errors.Write) why is = cc
sending-other (Err errors.NoMemory) why is = cc
sending-other (Err other) why is = elim why [ ]

module _ (settle : Bool) (S : ScenarioContents) where
  pub told-well : (T : ScenarioContents) → IsSettledIf settle S T → (error : PlayError) → IsUnsettledIf settle S error → ⊥
  told-well T settled error told = settled_if-well S settle T settled error told

  -- why nothing is told
  abbrev Why : PlayError → Type 0
  Why error = IsUnsettledIf settle S error ⊎ (error ≡ errors.NoMemory)

  pub why-reads : (error : PlayError) → Why error → error ≢ errors.Read
  why-reads error (inl told) is = no_read-unsettled_if S settle (subst (λ (e : PlayError). IsUnsettledIf settle S e) is told)
  why-reads error (inr memory) is = cc

  pub why-writes : (error : PlayError) → Why error → error ≢ errors.Write
  why-writes error (inl told) is = no_write-unsettled_if S settle (subst (λ (e : PlayError). IsUnsettledIf settle S e) is told)
  why-writes error (inr memory) is = cc

  -- the text spells a scenario that can't be run, or settled
  pub answers_untold : {A B : Type 0} (x : A) (input : Option (List ℕ)) (error : PlayError) → Why error → IsSpelled input S
      → IfSome input (λ text. (T : ScenarioContents) → Spells text T → S ≡ T) → Answers {A = A} IsSpelled IsTextFault input (Ok x)
      → Answers {A = B} (IsToldRun settle) (IsToldFault settle) input (Err error)
  answers_untold x input error (inl told) found only h =
      answers_told (IsToldIf settle) (IsUnsettledIf settle) S x input error told (λ fault is. no_text-unsettled_if S settle fault is)
      (λ fault other. unsettled_if-once S settle error fault told other) (λ output is. told-well is.0 is.1 error told) found only h
  answers_untold x input error (inr memory) found only h =
      answers_outside (IsToldRun settle) (IsToldFault settle) input error (subst IsOutside (sym memory) tt)

  -- what the teller tells of the scenario that is run
  abbrev pub framed : Whole → ScenarioContents → List Instr → List ℕ
  framed whole T instrs = framed_text telling keeping opening closing whole T (start T) instrs

  pub writes_told : (whole : Whole) (T : ScenarioContents) → whole.position ≡ 0 → whole.held ≡ None → IsSettledIf settle S T → (before after : Option (List ℕ)) (failed : Bool) (r : Result (Unit {0}) PlayError)
      → Writes (IsTextBy (framed whole) T) before after failed r → Writes (IsToldIf settle S) before after failed r
  writes_told whole T first none settled before after failed r h =
      writes_more (IsTextBy (framed whole) T) (IsToldIf settle S) before after failed r (λ output is. (T, settled, (is.0, is.1, text output is.0 is.1.few is.2))) h
    where
      text : (output : List ℕ) (actor : ActorContents) → length (expand actor) ≤ MAX_HISTORY → output ≡ framed whole T (expand actor) → output ≡ tell_text T (expand actor)
      text output actor few is = is ∙ whole-told whole T (start T) (expand actor) first none few
