-- A scenario is settled, or there is one reason why it isn't: so the answers of the commands follow from those of its text.
use Rattle.std.proofs.Common.{◌≡◌, ◌<◌, ◌≤◌, ◌⊎◌, inl, inr, ℕ, List, [], ◌∷◌, length, arith, refl, ap, ◌∙◌, sym, subst, Option, Some, None, IfSome, Result, Ok, Err, IfErr, OnOk}
use Rattle.cmwq_types.specs.Contents.{ActorContents, ScenarioContents}
use Rattle.cmwq_types.specs.Scenario.{expand}
use Rattle.cmwq_types.specs.declared.limits.TheConstants.{MAX_LINES}
use Rattle.cmwq_asm.specs.declared.fault.AsmError.{AsmError}
use Rattle.cmwq_grammar.specs.Grammar.{Spells}
use Rattle.cmwq_play.specs.Commands.{Answers, IsOutside}
use Rattle.cmwq_play.specs.Runs.{IsRefused, IsRunOf}
use Rattle.cmwq_play.specs.PlayTexts.{ComesTo, IsFaultOf, IsSpelled, IsTextFault}
use Rattle.cmwq_play.proofs.CommandLemmas.{answers_outside}
use Rattle.cmwq_play.proofs.TextLemmas.{answers_told, answers_well, not_refused, refused_once, same_actor}
use Rattle.cmwq_streams.specs.Sending.{IsSendError}
use Rattle.cmwq_streams.specs.declared.error.PlayError.{PlayError}
use Rattle.cmwq_streams.specs.declared.error.PlayError.TheVariants as errors
use Rattle.cmwq_table.specs.Table.{run}
use Rattle.cmwq_settle.specs.Quiet.{NeverQuiet, Settles, nexts_left}
use Rattle.cmwq_settle.specs.Settled.{IsNeverQuiet, IsSettled, IsSettledBy, IsTooLong, IsUnsettleable, IsNotSettled, with_nexts}
use Rattle.cmwq_settle.specs.Settling.{IsEndlessOutput, IsSettledListing, IsSettledOutput, Wrote}
use Rattle.cmwq_settle.proofs.NextLemmas.{settles-once, settles-or_never}

module _ (S : ScenarioContents) where
  -- It is settled by one number.
  pub settled-once : (a b : ActorContents) (m n : ℕ) → IsSettledBy S a m → IsSettledBy S b n → (a ≡ b) × (m ≡ n)
  settled-once a b m n first second =
      let same = same_actor S a b first.runs.alone second.runs.alone in
      let again = subst (λ (actor : ActorContents). Settles S (expand actor) m) same first.settles in
      (same, settles-once S (run S (expand b)) (nexts_left S (expand b)) m n again second.settles)

  not_both : (a b : ActorContents) (n : ℕ) → IsSettledBy S a n → IsNeverQuiet S b → ⊥
  not_both a b n settled never =
      let same = same_actor S a b settled.runs.alone never.runs.alone in
      let again = subst (λ (actor : ActorContents). Settles S (expand actor) n) same settled.settles in
      settles-or_never S (run S (expand b)) (nexts_left S (expand b)) n again never.never

  -- nothing is told of a scenario that is settled
  pub settled-well : (actor : ActorContents) (n : ℕ) → IsSettledBy S actor n → (error : PlayError) → IsNotSettled S error → ⊥
  settled-well actor n settled errors.NeverQuiet told = not_both actor told.0 n settled told.1
  settled-well actor n settled other told = not_refused S other (actor, settled.runs) told

  -- what can't be run can't be settled
  pub refused-told : (error : PlayError) → IsRefused S error → IsNotSettled S error
  refused-told errors.NeverQuiet refused = elim refused [ ]
  refused-told other refused = refused

  -- of one that isn't settled one thing is told
  pub unsettled-once : (error fault : PlayError) → IsNotSettled S error → IsNotSettled S fault → error ≡ fault
  unsettled-once errors.NeverQuiet fault first second = never_once fault second where
    never_once : (f : PlayError) → IsNotSettled S f → errors.NeverQuiet ≡ f
    never_once errors.NeverQuiet told = refl
    never_once other told = elim (not_refused S other (first.0, first.1.runs) told) [ ]
  unsettled-once other fault first second = refused_or_never fault second where
    refused_or_never : (f : PlayError) → IsNotSettled S f → other ≡ f
    refused_or_never errors.NeverQuiet told = elim (not_refused S other (told.0, told.1.runs) first) [ ]
    refused_or_never f told = refused_once S other f first told

  pub no_text-told : (fault : AsmError) → IsNotSettled S (errors.Asm fault) → ⊥
  no_text-told fault told = told

  -- The settled scenario has lines that fit, or too many.

  abbrev Reason : PlayError → Type 0
  Reason error = IsNotSettled S error ⊎ ((error ≡ errors.Full) × IsTooLong S)

  reason : (error : PlayError) → IsUnsettleable S error → Reason error
  reason errors.Full (inl refused) = inl refused
  reason errors.Full (inr long) = inr (refl, long)
  reason other told = inl told

  pub told-unsettleable : (error : PlayError) → IsNotSettled S error → IsUnsettleable S error
  told-unsettleable errors.Full told = inl told
  told-unsettleable other told = told

  long-settled : IsTooLong S → (error : PlayError) → IsNotSettled S error → ⊥
  long-settled long error told = settled-well long.0 long.1 long.2 error told

  reasons-once : (error fault : PlayError) → Reason error → Reason fault → error ≡ fault
  reasons-once error fault (inl first) (inl second) = unsettled-once error fault first second
  reasons-once error fault (inl first) (inr second) = elim (long-settled second.1 error first) [ ]
  reasons-once error fault (inr first) (inl second) = elim (long-settled first.1 fault second) [ ]
  reasons-once error fault (inr first) (inr second) = first.0 ∙ sym second.0

  pub unsettleable-once : (error fault : PlayError) → IsUnsettleable S error → IsUnsettleable S fault → error ≡ fault
  unsettleable-once error fault first second = reasons-once error fault (reason error first) (reason fault second)

  pub settled_scenario-well : (T : ScenarioContents) → IsSettled S T → (error : PlayError) → IsUnsettleable S error → ⊥
  settled_scenario-well T settled error told = well (reason error told) where
    well : Reason error → ⊥
    well (inl unsettled) = settled-well settled.0 settled.1 settled.2 error unsettled
    well (inr long) =
        let same = settled-once settled.0 long.1.0 settled.1 long.1.1 settled.2 long.1.2 in
        let lines = ap (λ (actor : ActorContents). length (with_nexts settled.1 actor).lines) same.0 ∙ ap (λ (n : ℕ). length (with_nexts n long.1.0).lines) same.1 in
        absurd (omega (arith, settled.3, long.1.3, lines))

  pub no_text-unsettleable : (fault : AsmError) → IsUnsettleable S (errors.Asm fault) → ⊥
  no_text-unsettleable fault told = told

-- What `settle` writes is a settled listing, and no fault is told then.
pub listing-well : (S : ScenarioContents) (output : List ℕ) → IsSettledListing S output → (error : PlayError) → IsUnsettleable S error → ⊥
listing-well S output written error told = settled_scenario-well S written.0 written.1 error told

-- The answers of a run to quiet, from what it wrote.
module _ (S : ScenarioContents) (input before after : Option (List ℕ)) (found : IsSpelled input S) (only : IfSome input (λ text. (T : ScenarioContents) → Spells text T → S ≡ T)) where
  -- it was settled
  pub answers_settled : {A B : Type 0} (x : A) (y : B) → Wrote (IsSettledOutput S) before after → Answers {A = A} IsSpelled IsTextFault input (Ok x)
      → Answers {A = B} (ComesTo IsSettledOutput) (IsFaultOf IsNotSettled) input (Ok y)
  answers_settled x y wrote h =
      let settled = wrote.1 in
      answers_well IsSettledOutput IsNotSettled S x input (Ok y) (λ error told. settled-well S settled.0 settled.1 settled.2 error told) tt only h

  -- one thing is told of it
  pub answers_unsettled : {A B : Type 0} (x : A) (error : PlayError) → IsNotSettled S error → Answers {A = A} IsSpelled IsTextFault input (Ok x)
      → Answers {A = B} (ComesTo IsSettledOutput) (IsFaultOf IsNotSettled) input (Err error)
  answers_unsettled x error told h =
      answers_told IsSettledOutput IsNotSettled S x input error told (no_text-told S) (λ fault other. unsettled-once S error fault told other)
      (λ output is. settled-well S is.0 is.1 is.2 error told) found only h

  answers_failed : {A B : Type 0} (x : A) (error : PlayError) → (errors.NeverQuiet ≡ error → Wrote (IsEndlessOutput S) before after) → (error ≡ errors.NeverQuiet) ⊎ IsSendError error
      → Answers {A = A} IsSpelled IsTextFault input (Ok x) → Answers {A = B} (ComesTo IsSettledOutput) (IsFaultOf IsNotSettled) input (Err error)
  answers_failed {B = B} x error endless (inl never) h =
      let wrote = endless (sym never) in
      subst (λ (e : PlayError). Answers {A = B} (ComesTo IsSettledOutput) (IsFaultOf IsNotSettled) input (Err e)) (sym never)
      (answers_unsettled x errors.NeverQuiet (wrote.1.0, wrote.1.1) h)
  answers_failed x error endless (inr sending) h = answers_outside (ComesTo IsSettledOutput) (IsFaultOf IsNotSettled) input error (outside error sending) where
    outside : (e : PlayError) → IsSendError e → IsOutside e
    outside errors.Write why = tt
    outside errors.NoMemory why = tt
    outside other why = elim why [ ]

  pub answers_printed : {A B : Type 0} (x : A) (r : Result B PlayError) → OnOk r (Wrote (IsSettledOutput S) before after) → (r ≡ Err errors.NeverQuiet → Wrote (IsEndlessOutput S) before after)
      → IfErr r (λ error. (error ≡ errors.NeverQuiet) ⊎ IsSendError error) → Answers {A = A} IsSpelled IsTextFault input (Ok x)
      → Answers {A = B} (ComesTo IsSettledOutput) (IsFaultOf IsNotSettled) input r
  answers_printed x (Ok y) quiet endless why h = answers_settled x y quiet h
  answers_printed x (Err error) quiet endless why h = answers_failed x error (λ is. endless (ap Err (sym is))) why h
