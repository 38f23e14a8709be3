-- A scenario is drawn, or there is one reason why it isn't: so the command's answers follow from those of its text.
use Rattle.std.proofs.Common.{◌≡◌, ◌≢◌, ◌⊎◌, inl, inr, ℕ, List, [], ◌∷◌, length, map, refl, ap, ◌∙◌, sym, subst, Bool, true, false, Option, Some, None, IfSome, Result, Ok, Err, IfOk, IfErr}
use Rattle.std.specs.Prelude.{slice_index_or}
use Rattle.cmwq_types.specs.Contents.{ActorContents, ScenarioContents}
use Rattle.cmwq_asm.specs.declared.fault.AsmError.{AsmError}
use Rattle.cmwq_grammar.specs.Grammar.{Spells}
use Rattle.cmwq_play.specs.Commands.{Answers, IsOutside}
use Rattle.cmwq_play.specs.PlayTexts.{ComesTo, IsFaultOf, IsSpelled, IsTextFault}
use Rattle.cmwq_play.proofs.CommandLemmas.{answers_outside}
use Rattle.cmwq_play.proofs.TextLemmas.{answers_told, not_refused, refused_once, same_actor}
use Rattle.cmwq_settle.specs.Settled.{IsSettled, settled_scenario, with_nexts}
use Rattle.cmwq_settle.proofs.AnswerLemmas.{no_text-unsettleable, settled-once, settled_scenario-well, unsettleable-once}
use Rattle.cmwq_streams.specs.declared.error.PlayError.{PlayError}
use Rattle.cmwq_streams.specs.declared.error.PlayError.TheVariants as errors
use Rattle.cmwq_types.specs.declared.instr.WorkId.{WorkId}
use Rattle.cmwq_draw.specs.Picking.{picked}
use Rattle.cmwq_draw.specs.Drawn.{IsAsked, IsChosen, IsDrawable, IsDrawing, IsRefusedFirst, IsUndrawable}
use Rattle.cmwq_draw.specs.Rendered.{drawing_of, is_wide}
use Rattle.cmwq_drawing.specs.declared.drawing.Drawing.{Drawing}

-- Actors.

pub settled-alone : (S T : ScenarioContents) → IsSettled S T → length T.actors ≡ 1
settled-alone S T settled =
    ap (λ (U : ScenarioContents). length U.actors) settled.4
    ∙ ap (λ (actors : List ActorContents). length (map (with_nexts settled.1) actors)) settled.2.runs.alone

-- the first of the actors, where there is one, is alone
pub first-alone : (actors : List ActorContents) (first : ActorContents) → length actors ≡ 1 → first ≡ slice_index_or actors 0 first → actors ≡ first ∷ []
first-alone [] first one at = absurd cc
first-alone (actor ∷ []) first one at = ap (λ (a : ActorContents). a ∷ []) (sym at)
first-alone (actor ∷ other ∷ more) first one at = absurd cc

module _ (S : ScenarioContents) where
  -- one scenario is drawn
  chosen-once : (settle : Bool) (T U : ScenarioContents) → IsChosen settle S T → IsChosen settle S U → T ≡ U
  chosen-once true T U first second =
      let same = settled-once S first.0 second.0 first.1 second.1 first.2 second.2 in
      first.4 ∙ ap (λ (n : ℕ). settled_scenario S n) same.1 ∙ sym second.4
  chosen-once false T U first second = first.0 ∙ sym second.0

  chosen-well : (settle : Bool) (T : ScenarioContents) → IsChosen settle S T → (error : PlayError) → IsRefusedFirst settle S error → ⊥
  chosen-well true T chosen error told = settled_scenario-well S T chosen error told
  chosen-well false T chosen error told = not_refused S error chosen.1 told

  refused_first-once : (settle : Bool) (error fault : PlayError) → IsRefusedFirst settle S error → IsRefusedFirst settle S fault → error ≡ fault
  refused_first-once true error fault first second = unsettleable-once S error fault first second
  refused_first-once false error fault first second = refused_once S error fault first second

  no_text-refused : (settle : Bool) (fault : AsmError) → IsRefusedFirst settle S (errors.Asm fault) → ⊥
  no_text-refused true fault told = no_text-unsettleable S fault told
  no_text-refused false fault told = told

  no_read : (settle : Bool) → IsRefusedFirst settle S errors.Read → ⊥
  no_read true told = told
  no_read false told = told

  no_write : (settle : Bool) → IsRefusedFirst settle S errors.Write → ⊥
  no_write true told = told
  no_write false told = told

  module _ (drawing : Drawing) where
    -- one run is to be drawn
    asked-once : (P : ScenarioContents → ActorContents → Type 0) (T U : ScenarioContents) (a b : ActorContents) → IsAsked drawing S T a → IsAsked drawing S U b → P T a → P U b
    asked-once P T U a b first second holds =
        let same = chosen-once drawing.settle T U first.chosen second.chosen in
        let alone : U.actors ≡ a ∷ [] = subst (λ (X : ScenarioContents). X.actors ≡ a ∷ []) same first.alone in
        let actor = same_actor U a b alone second.alone in
        subst (λ (x : ActorContents). P U x) actor (subst (λ (X : ScenarioContents). P X a) same holds)

    abbrev NoSuch : Type 0
    NoSuch = (T : ScenarioContents) × (actor : ActorContents) × IsAsked drawing S T actor × (picked T drawing.works ≡ None)

    abbrev TooWide : Type 0
    TooWide = (T : ScenarioContents) × (actor : ActorContents) × (works : Option (List WorkId)) × IsDrawable drawing S T actor works true

    abbrev Reason : PlayError → Type 0
    Reason error = IsRefusedFirst drawing.settle S error ⊎ (((error ≡ errors.NoSuchWork) × NoSuch) ⊎ ((error ≡ errors.TooWide) × TooWide))

    reason : (error : PlayError) → IsUndrawable drawing S error → Reason error
    reason errors.NoSuchWork told = inr (inl (refl, told))
    reason errors.TooWide told = inr (inr (refl, told))
    reason other told = inl told

    -- the names are known, or they aren't
    known-once : NoSuch → (T : ScenarioContents) (actor : ActorContents) (works : Option (List WorkId)) (wide : Bool) → IsDrawable drawing S T actor works wide → ⊥
    known-once none T actor works wide drawn =
        let unknown : picked T drawing.works ≡ None = asked-once (λ X x. picked X drawing.works ≡ None) none.0 T none.1 actor none.2 drawn.asked none.3 in
        let apart : None ≡ Some works = sym unknown ∙ drawn.known in
        cc

    reasons-once : (error fault : PlayError) → Reason error → Reason fault → error ≡ fault
    reasons-once error fault (inl first) (inl second) = refused_first-once drawing.settle error fault first second
    reasons-once error fault (inl first) (inr (inl second)) = elim (chosen-well drawing.settle second.1.0 second.1.2.chosen error first) [ ]
    reasons-once error fault (inl first) (inr (inr second)) = elim (chosen-well drawing.settle second.1.0 second.1.3.asked.chosen error first) [ ]
    reasons-once error fault (inr (inl first)) (inl second) = elim (chosen-well drawing.settle first.1.0 first.1.2.chosen fault second) [ ]
    reasons-once error fault (inr (inr first)) (inl second) = elim (chosen-well drawing.settle first.1.0 first.1.3.asked.chosen fault second) [ ]
    reasons-once error fault (inr (inl first)) (inr (inl second)) = first.0 ∙ sym second.0
    reasons-once error fault (inr (inr first)) (inr (inr second)) = first.0 ∙ sym second.0
    reasons-once error fault (inr (inl first)) (inr (inr second)) = elim (known-once first.1 second.1.0 second.1.1 second.1.2 true second.1.3) [ ]
    reasons-once error fault (inr (inr first)) (inr (inl second)) = elim (known-once second.1 first.1.0 first.1.1 first.1.2 true first.1.3) [ ]

    pub undrawable-once : (error fault : PlayError) → IsUndrawable drawing S error → IsUndrawable drawing S fault → error ≡ fault
    undrawable-once error fault first second = reasons-once error fault (reason error first) (reason fault second)

    -- nothing is told of a scenario that is drawn
    pub drawing-well : (output : List ℕ) → IsDrawing drawing S output → (error : PlayError) → IsUndrawable drawing S error → ⊥
    drawing-well output drawn error told = well (reason error told) where
      well : Reason error → ⊥
      well (inl refused) = chosen-well drawing.settle drawn.0 drawn.3.asked.chosen error refused
      well (inr (inl none)) = known-once none.1 drawn.0 drawn.1 drawn.2 false drawn.3
      well (inr (inr wide)) =
          let narrow : is_wide drawing wide.1.0 wide.1.1 ≡ false =
          asked-once (λ X x. is_wide drawing X x ≡ false) drawn.0 wide.1.0 drawn.1 wide.1.1 drawn.3.asked wide.1.3.asked drawn.3.width in
          let apart : false ≡ true = sym narrow ∙ wide.1.3.width in
          cc

    -- why there is none
    abbrev Why : PlayError → Type 0
    Why error = IsUndrawable drawing S error ⊎ (error ≡ errors.NoMemory)

    pub why-reads : (error : PlayError) → Why error → error ≢ errors.Read
    why-reads error (inl told) is = no_read drawing.settle (subst (λ (e : PlayError). IsUndrawable drawing S e) is told)
    why-reads error (inr memory) is = cc

    pub why-writes : (error : PlayError) → Why error → error ≢ errors.Write
    why-writes error (inl told) is = no_write drawing.settle (subst (λ (e : PlayError). IsUndrawable drawing S e) is told)
    why-writes error (inr memory) is = cc

    -- the text spells a scenario that can't be drawn
    pub answers_undrawable : {A B : Type 0} (x : A) (input : Option (List ℕ)) (error : PlayError) → Why error → IsSpelled input S
        → IfSome input (λ text. (T : ScenarioContents) → Spells text T → S ≡ T) → Answers {A = A} IsSpelled IsTextFault input (Ok x)
        → Answers {A = B} (ComesTo (IsDrawing drawing)) (IsFaultOf (IsUndrawable drawing)) input (Err error)
    answers_undrawable x input error (inl told) found only h =
        answers_told (IsDrawing drawing) (IsUndrawable drawing) S x input error told (λ fault is. no_text-refused drawing.settle fault is)
        (λ fault other. undrawable-once error fault told other) (λ output is. drawing-well output is error told) found only h
    answers_undrawable x input error (inr memory) found only h =
        answers_outside (ComesTo (IsDrawing drawing)) (IsFaultOf (IsUndrawable drawing)) input error (subst IsOutside (sym memory) tt)

-- The drawing of the chosen scenario T, which a machine has as U, with rows of these works.
module _ {A : Type 0} (items : A → List ℕ) (drawing : Drawing) (S T U : ScenarioContents) (actor : ActorContents) (same : U ≡ T) (chosen : IsChosen drawing.settle S T) (alone : T.actors ≡ actor ∷ []) where
  module _ (works : Option (List WorkId)) (known : picked U drawing.works ≡ Some works) where
    known-there : picked T drawing.works ≡ Some works
    known-there = subst (λ (X : ScenarioContents). picked X drawing.works ≡ Some works) same known

    pub drawn-well : (r : Result A PlayError) → IfOk r (λ text. items text ≡ drawing_of drawing U actor works) → IfOk r (λ text. is_wide drawing U actor ≡ false)
        → IfOk r (λ text. IsDrawing drawing S (items text))
    drawn-well (Ok text) is fits = (
      T,
      actor,
      works,
      record { asked = record { chosen = chosen; alone = alone }; known = known-there; width = subst (λ (X : ScenarioContents). is_wide drawing X actor ≡ false) same fits },
      subst (λ (X : ScenarioContents). items text ≡ drawing_of drawing X actor works) same is,
    )
    drawn-well (Err error) is fits = tt

    pub drawn-why : (r : Result A PlayError) → (r ≡ Err errors.TooWide → is_wide drawing U actor ≡ true) → IfErr r (λ error. (error ≡ errors.TooWide) ⊎ (error ≡ errors.NoMemory))
        → IfErr r (λ error. IsUndrawable drawing S error ⊎ (error ≡ errors.NoMemory))
    drawn-why (Ok text) wide why = tt
    drawn-why (Err error) wide (inl is) =
        let width = subst (λ (X : ScenarioContents). is_wide drawing X actor ≡ true) same (wide (ap Err is)) in
        inl (subst (λ (e : PlayError). IsUndrawable drawing S e) (sym is) (T, actor, works, record { asked = record { chosen = chosen; alone = alone }; known = known-there; width = width }))
    drawn-why (Err error) wide (inr memory) = inr memory

one-actor : (actors : List ActorContents) → length actors ≡ 1 → (actor : ActorContents) × (actors ≡ actor ∷ [])
one-actor [] one = absurd cc
one-actor (actor ∷ []) one = (actor, refl)
one-actor (actor ∷ other ∷ more) one = absurd cc

-- a name isn't declared in the chosen scenario T, which is at hand as U
pub unknown-why : (drawing : Drawing) (S T U : ScenarioContents) → U ≡ T → IsChosen drawing.settle S T → length T.actors ≡ 1 → (error : PlayError)
    → ((error ≡ errors.NoSuchWork) × (picked U drawing.works ≡ None)) ⊎ (error ≡ errors.NoMemory) → IsUndrawable drawing S error ⊎ (error ≡ errors.NoMemory)
unknown-why drawing S T U same chosen one error (inl is) =
    let unknown = subst (λ (X : ScenarioContents). picked X drawing.works ≡ None) same is.1 in
    let alone = one-actor T.actors one in
    inl (subst (λ (e : PlayError). IsUndrawable drawing S e) (sym is.0) (T, alone.0, record { chosen = chosen; alone = alone.1 }, unknown))
unknown-why drawing S T U same chosen one error (inr memory) = inr memory
