-- What the text that was read says is what the input says: it is all of the input, or it is too long, as
-- the input is then.
use Rattle.std.proofs.Common.{◌≡◌, ℕ, ◌<◌, ◌≤◌, ◌⊎◌, inl, inr, List, [], ◌∷◌, length, refl, Option, Some, None, IfSome, sym, ap, ◌∙◌, subst, length-append, arith, IfErr, Result, Ok, Err}
use Rattle.std.proofs.Math.Nat.{lt_of_not-le}
use Rattle.std.specs.Io.KnownBytes.{Consumes}
use Rattle.std.specs.Prelude.{slice_index_or}
use Rattle.cmwq_types.specs.Contents.{ActorContents, ScenarioContents}
use Rattle.cmwq_types.specs.Scenario.{expand}
use Rattle.cmwq_types.specs.declared.limits.TheConstants.{MAX_TEXT}
use Rattle.cmwq_grammar.specs.FaultLaw.{IsFault}
use Rattle.cmwq_grammar.specs.Grammar.{Spells}
use Rattle.cmwq_grammar.specs.Meaning.{FaultAt, fault_at}
use Rattle.cmwq_asm.specs.declared.fault.AsmError.{AsmError}
use Rattle.cmwq_asm.specs.declared.fault.AsmError.TheVariants.{At, NoMemory as asm_no_memory}
use Rattle.cmwq_play.specs.Commands.{Answers, IsOutside}
use Rattle.cmwq_play.specs.Runs.{CanRun, IsRefused}
use Rattle.cmwq_play.specs.PlayTexts.{ComesTo, IsFaultOf, IsSpelled, IsTextFault}
use Rattle.cmwq_play.proofs.CommandLemmas.{answers_lifted, answers_outside, outside_told}
use Rattle.cmwq_grammar.specs.declared.why.Why.{Why}
use Rattle.cmwq_streams.specs.Errors.{text_told_as}
use Rattle.cmwq_streams.specs.declared.error.PlayError.{PlayError}
use Rattle.cmwq_streams.specs.declared.error.PlayError.TheVariants.{Asm, Actors, Full, NoMemory}

-- What was read of an input of these bytes.
module _ (bytes text : List ℕ) (within : length text ≤ length bytes) (whole : length text ≤ MAX_TEXT → bytes ≡ text) where
  pub spelled_again : (S : ScenarioContents) → Spells text S → Spells bytes S
  spelled_again S spelled = subst (λ (all : List ℕ). Spells all S) (sym (whole spelled.short)) spelled

  pub spelled_before : (S : ScenarioContents) → Spells bytes S → Spells text S
  spelled_before S spelled =
      let short = spelled.short in
      subst (λ (all : List ℕ). Spells all S) (whole (omega arith)) spelled

  pub faulty_again : (fault : FaultAt) → IsFault text fault → IsFault bytes fault
  faulty_again fault (inl (long, told)) = inl ((omega arith), told)
  faulty_again fault (inr (inl (short, n, there))) = subst (λ (all : List ℕ). IsFault all fault) (sym (whole short)) (inr (inl (short, n, there)))
  faulty_again fault (inr (inr (short, ends))) = subst (λ (all : List ℕ). IsFault all fault) (sym (whole short)) (inr (inr (short, ends)))

  -- a long input leaves a long text
  pub long_text : MAX_TEXT < length bytes → MAX_TEXT < length text
  long_text long = lt_of_not-le (λ short. let same = ap length (whole short) in omega arith)

  pub faulty_before : (fault : FaultAt) → IsFault bytes fault → IsFault text fault
  faulty_before fault (inl (long, told)) = inl (long_text long, told)
  faulty_before fault (inr (inl (short, n, there))) =
      let read : length text ≤ MAX_TEXT = omega arith in
      subst (λ (all : List ℕ). IsFault all fault) (whole read) (inr (inl (short, n, there)))
  faulty_before fault (inr (inr (short, ends))) =
      let read : length text ≤ MAX_TEXT = omega arith in
      subst (λ (all : List ℕ). IsFault all fault) (whole read) (inr (inr (short, ends)))

-- the bytes that were read are no more than there were
pub read_within : (bytes text : List ℕ) (now : Option (List ℕ)) → Consumes (Some bytes) now text → length text ≤ length bytes
read_within bytes text (Some rest) front =
    let count = ap length front ∙ length-append text rest in
    omega arith
read_within bytes text None front = elim front [ ]

-- The same of an input that may not be known.
module _ (now : Option (List ℕ)) (text : List ℕ) where
  pub known_spelled : (input : Option (List ℕ)) → Consumes input now text → (length text ≤ MAX_TEXT → IfSome input (λ bytes. bytes ≡ text))
      → (S : ScenarioContents) → Spells text S → IsSpelled input S
  known_spelled (Some bytes) front whole S spelled =
      record { valid = spelled.is_text.valid; spelled = spelled_again bytes text (read_within bytes text now front) whole S spelled }
  known_spelled None front whole S spelled = record { valid = spelled.is_text.valid; spelled = tt }

  fault_again : (input : Option (List ℕ)) → Consumes input now text → (length text ≤ MAX_TEXT → IfSome input (λ bytes. bytes ≡ text))
      → (error : PlayError) → IsTextFault (Some text) error → IsTextFault input error
  fault_again (Some bytes) front whole (Asm (At line why)) told = faulty_again bytes text (read_within bytes text now front) whole (fault_at line why) told
  fault_again None front whole (Asm (At line why)) told = tt
  fault_again input front whole other told = elim told [ ]

  fault_before : (bytes : List ℕ) → Consumes (Some bytes) now text → (length text ≤ MAX_TEXT → bytes ≡ text)
      → (error : PlayError) → IsTextFault (Some bytes) error → IsTextFault (Some text) error
  fault_before bytes front whole (Asm (At line why)) told = faulty_before bytes text (read_within bytes text now front) whole (fault_at line why) told
  fault_before bytes front whole other told = elim told [ ]

  -- what was read of the input says what the input says
  pub text_answers : {A : Type 0} (input : Option (List ℕ)) (r : Result A PlayError) → Consumes input now text → (length text ≤ MAX_TEXT → IfSome input (λ bytes. bytes ≡ text))
      → Answers IsSpelled IsTextFault (Some text) r → Answers IsSpelled IsTextFault input r
  text_answers (Some bytes) r front whole h =
      answers_lifted IsSpelled IsTextFault (Some bytes) text r (fault_again (Some bytes) front whole)
      (λ S is. record { valid = is.valid; spelled = spelled_before bytes text (read_within bytes text now front) whole S is.spelled })
      (fault_before bytes front whole) h
  text_answers None r front whole h = answers_lifted IsSpelled IsTextFault None text r (fault_again None front whole) tt tt h

-- the assembler's fault is the one that the law names
one_told : (error : AsmError) (line : ℕ) (why : Why) (fault : FaultAt) → error ≡ At line why → (error ≡ At fault.line fault.why) ⊎ (error ≡ asm_no_memory) → fault ≡ fault_at line why
one_told error line why fault is (inl told) =
    let same : At fault.line fault.why ≡ At line why = sym told ∙ is in
    let lines : fault.line ≡ line = cc in
    let reasons : fault.why ≡ why = cc in
    ap (λ (n : ℕ). fault_at n fault.why) lines ∙ ap (λ (w : Why). fault_at line w) reasons
one_told error line why fault is (inr outside) = cc

-- The assembler's answers as those of a command.
module _ (text : List ℕ) where
  no_fault : ((fault : FaultAt) → IsFault text fault → ⊥) → (error : PlayError) → IsTextFault (Some text) error → ⊥
  no_fault sound (Asm (At line why)) told = sound (fault_at line why) told
  no_fault sound other told = elim told [ ]

  -- a text that spells a scenario
  pub answers_spelled : {A : Type 0} (x : A) → ((fault : FaultAt) → IsFault text fault → ⊥) → Answers IsSpelled IsTextFault (Some text) (Ok x)
  answers_spelled x sound = record { told = tt; given = λ S is. tt; tells = no_fault sound }

  one_fault : (line : ℕ) (why : Why) → ((fault : FaultAt) → IsFault text fault → fault ≡ fault_at line why) → (error : PlayError) → IsTextFault (Some text) error → Asm (At line why) ≡ error
  one_fault line why one (Asm (At l w)) told = let same = one (fault_at l w) told in ap (λ (f : FaultAt). Asm (At f.line f.why)) (sym same)
  one_fault line why one other told = elim told [ ]

  -- a text with a fault
  answers_faulty : {A : Type 0} (line : ℕ) (why : Why) → IsFault text (fault_at line why) → ((S : ScenarioContents) → Spells text S → ⊥)
      → ((fault : FaultAt) → IsFault text fault → fault ≡ fault_at line why) → Answers {A = A} IsSpelled IsTextFault (Some text) (Err (Asm (At line why)))
  answers_faulty line why told unspelled one = record {
    told = inl told;
    given = λ S is. unspelled S is.spelled;
    tells = λ fault is. inl (one_fault line why one fault is);
  }

  -- the assembler gives no scenario, and says why
  pub answers_unassembled : {A : Type 0} (error : AsmError) → ((line : ℕ) (why : Why) → error ≡ At line why → IsFault text (fault_at line why))
      → ((S : ScenarioContents) → Spells text S → error ≡ asm_no_memory) → ((fault : FaultAt) → IsFault text fault → (error ≡ At fault.line fault.why) ⊎ (error ≡ asm_no_memory))
      → Answers {A = A} IsSpelled IsTextFault (Some text) (Err (text_told_as error))
  answers_unassembled (At line why) told only one =
      answers_faulty line why (told line why refl) (λ S spelled. let no = only S spelled in cc) (λ fault faulty. one_told (At line why) line why fault refl (one fault faulty))
  answers_unassembled asm_no_memory told only one = answers_outside IsSpelled IsTextFault (Some text) NoMemory tt

-- A command's answers from those of its text: what the scenario comes to, and what is told of it. A fault of the text isn't told of it.
module _ {X : Type 0} (Gives : ScenarioContents → X → Type 0) (Tells : ScenarioContents → PlayError → Type 0) where
  text_fault : (input : Option (List ℕ)) (error : PlayError) → IsTextFault input error → IsFaultOf Tells input error
  text_fault input (Asm fault) told = told
  text_fault input other told = elim told [ ]

  -- the text has a fault, or it couldn't be read
  pub answers_unread : {A B : Type 0} (input : Option (List ℕ)) (error : PlayError) → Answers {A = A} IsSpelled IsTextFault input (Err error)
      → Answers {A = B} (ComesTo Gives) (IsFaultOf Tells) input (Err error)
  answers_unread {A} {B} input error h = whole input h.told h.given h.tells where
    told_so : (known : Option (List ℕ)) → IsTextFault known error ⊎ IsOutside error → IsFaultOf Tells known error ⊎ IsOutside error
    told_so known (inl fault) = inl (text_fault known error fault)
    told_so known (inr outside) = inr outside

    each : (bytes : List ℕ) → ((S : ScenarioContents) → IsSpelled (Some bytes) S → IsOutside error) → ((fault : PlayError) → IsTextFault (Some bytes) fault → (error ≡ fault) ⊎ IsOutside error)
        → (fault : PlayError) → IsFaultOf Tells (Some bytes) fault → (error ≡ fault) ⊎ IsOutside error
    each bytes given tells (Asm fault) told = tells (Asm fault) told
    each bytes given tells other told = inr (given told.0 told.1)

    whole : (known : Option (List ℕ)) → IsTextFault known error ⊎ IsOutside error → IfSome known (λ bytes. (S : ScenarioContents) → IsSpelled (Some bytes) S → IsOutside error)
        → IfSome known (λ bytes. (fault : PlayError) → IsTextFault (Some bytes) fault → (error ≡ fault) ⊎ IsOutside error) → Answers {A = B} (ComesTo Gives) (IsFaultOf Tells) known (Err error)
    whole (Some bytes) told given tells = record { told = told_so (Some bytes) told; given = λ x is. given is.0 is.1; tells = each bytes given tells }
    whole None told given tells = record { told = told_so None told; given = tt; tells = tt }

  -- The text spells this scenario and no other.
  module _ (S : ScenarioContents) where
    none_told : (bytes : List ℕ) → ((T : ScenarioContents) → Spells bytes T → S ≡ T) → ((fault : PlayError) → Tells S fault → ⊥) → ((fault : PlayError) → IsTextFault (Some bytes) fault → ⊥)
        → (fault : PlayError) → IsFaultOf Tells (Some bytes) fault → ⊥
    none_told bytes only nothing sound (Asm fault) told = sound (Asm fault) told
    none_told bytes only nothing sound other told = nothing other (subst (λ (T : ScenarioContents). Tells T other) (sym (only told.0 told.1.spelled)) told.2)

    -- nothing is told of it, and what follows fails for nothing in the text
    pub answers_well : {A B : Type 0} (x : A) (input : Option (List ℕ)) (r : Result B PlayError) → ((fault : PlayError) → Tells S fault → ⊥) → IfErr r (λ error. IsOutside error)
        → IfSome input (λ text. (T : ScenarioContents) → Spells text T → S ≡ T) → Answers {A = A} IsSpelled IsTextFault input (Ok x) → Answers {A = B} (ComesTo Gives) (IsFaultOf Tells) input r
    answers_well x (Some bytes) r nothing outside only h = record {
      told = outside_told r (IsFaultOf Tells (Some bytes)) outside;
      given = λ output is. outside;
      tells = λ fault told. elim (none_told bytes only nothing h.tells fault told) [ ];
    }
    answers_well x None r nothing outside only h = record { told = outside_told r (IsFaultOf Tells None) outside; given = tt; tells = tt }

    told_fault : (input : Option (List ℕ)) (error : PlayError) → IsSpelled input S → ((fault : AsmError) → Tells S (Asm fault) → ⊥) → Tells S error → IsFaultOf Tells input error
    told_fault input (Asm fault) found no_text told = elim (no_text fault told) [ ]
    told_fault input other found no_text told = (S, found, told)

    one_fault_told : (bytes : List ℕ) (error : PlayError) → ((fault : PlayError) → Tells S fault → error ≡ fault) → ((T : ScenarioContents) → Spells bytes T → S ≡ T) → ((fault : PlayError) → IsTextFault (Some bytes) fault → ⊥)
        → (fault : PlayError) → IsFaultOf Tells (Some bytes) fault → error ≡ fault
    one_fault_told bytes error one only sound (Asm fault) told = elim (sound (Asm fault) told) [ ]
    one_fault_told bytes error one only sound other told = one other (subst (λ (T : ScenarioContents). Tells T other) (sym (only told.0 told.1.spelled)) told.2)

    -- this one fault is told of it, and it comes to nothing
    pub answers_told : {A B : Type 0} (x : A) (input : Option (List ℕ)) (error : PlayError) → Tells S error → ((fault : AsmError) → Tells S (Asm fault) → ⊥) → ((fault : PlayError) → Tells S fault → error ≡ fault)
        → ((y : X) → Gives S y → ⊥) → IsSpelled input S → IfSome input (λ text. (T : ScenarioContents) → Spells text T → S ≡ T)
        → Answers {A = A} IsSpelled IsTextFault input (Ok x) → Answers {A = B} (ComesTo Gives) (IsFaultOf Tells) input (Err error)
    answers_told x (Some bytes) error told no_text one nothing found only h = record {
      told = inl (told_fault (Some bytes) error found no_text told);
      given = λ y is. absurd (nothing y (subst (λ (T : ScenarioContents). Gives T y) (sym (only is.0 is.1.spelled)) is.2));
      tells = λ fault is. inl (one_fault_told bytes error one only h.tells fault is);
    }
    answers_told x None error told no_text one nothing found only h = record { told = inl (told_fault None error found no_text told); given = tt; tells = tt }

-- Why a scenario isn't run.

-- a scenario has one actor at most that is alone
pub same_actor : (S : ScenarioContents) (a b : ActorContents) → S.actors ≡ a ∷ [] → S.actors ≡ b ∷ [] → a ≡ b
same_actor S a b first second = cc

-- the actor that is first is the only one
pub first-is : (actors : List ActorContents) (first actor : ActorContents) → first ≡ slice_index_or actors 0 first → actors ≡ actor ∷ [] → first ≡ actor
first-is actors first actor at alone = at ∙ ap (λ (all : List ActorContents). slice_index_or all 0 first) alone

-- a scenario that can be run isn't refused
pub not_refused : (S : ScenarioContents) (error : PlayError) → CanRun S → IsRefused S error → ⊥
not_refused S Actors can other = other (ap length can.1.alone)
not_refused S Full can many =
    let same = ap (λ (actor : ActorContents). length (expand actor)) (same_actor S can.0 many.0 can.1.alone many.1) in
    absurd (omega (arith, can.1.few, many.2, same))
not_refused S other can refused = elim refused [ ]

-- it is refused for one reason alone
pub refused_once : (S : ScenarioContents) (error fault : PlayError) → IsRefused S error → IsRefused S fault → error ≡ fault
refused_once S Actors Actors first second = refl
refused_once S Actors Full first second = absurd (first (ap length second.1))
refused_once S Full Actors first second = absurd (second (ap length first.1))
refused_once S Full Full first second = refl
refused_once S Actors other first second = elim second [ ]
refused_once S Full other first second = elim second [ ]
refused_once S other fault first second = elim first [ ]
