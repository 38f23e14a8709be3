-- A question is answered, or there is one reason why it isn't: so the command's answers follow from those of its text.
use Rattle.std.proofs.Common.{◌≡◌, ◌≢◌, ◌⊎◌, inl, inr, ℕ, List, [], ◌∷◌, Bool, true, false, Option, IfSome, Result, Ok, Err, IfErr, IsTrue, refl, ap, ◌∙◌, sym, subst}
use Rattle.std.specs.Io.KnownBytes.{Appends}
use Rattle.cmwq_types.specs.Contents.{ActorContents, ScenarioContents}
use Rattle.cmwq_types.specs.Scenario.{expand}
use Rattle.cmwq_asm.specs.declared.fault.AsmError.{AsmError}
use Rattle.cmwq_grammar.specs.Grammar.{Spells}
use Rattle.cmwq_explain.specs.Changes.{has_bytes}
use Rattle.cmwq_explain.specs.ChangesTold.{IsPastEnd, IsTellError, TellsText}
use Rattle.cmwq_play.specs.Commands.{Answers, IsOutside, Writes}
use Rattle.cmwq_play.specs.Runs.{IsRunOf}
use Rattle.cmwq_play.specs.PlayTexts.{ComesTo, IsFaultOf, IsSpelled, IsTextFault}
use Rattle.cmwq_play.proofs.CommandLemmas.{answers_outside, keeps_same, writes_err, writes_more}
use Rattle.cmwq_play.proofs.TextLemmas.{answers_told, answers_well, same_actor}
use Rattle.cmwq_settle.specs.Settled.{IsSettledIf, IsUnsettledIf}
use Rattle.cmwq_settle.proofs.CallerLemmas.{no_read-unsettled_if, no_text-unsettled_if, no_write-unsettled_if, settled_if-once, settled_if-well, unsettled_if-once}
use Rattle.cmwq_streams.specs.Sending.{IsSendError}
use Rattle.cmwq_streams.specs.declared.error.PlayError.{PlayError}
use Rattle.cmwq_streams.specs.declared.error.PlayError.TheVariants as errors
use Rattle.cmwq_question.specs.declared.question.Inquiry.{Inquiry}
use Rattle.cmwq_question.specs.declared.question.Question.{Question}
use Rattle.cmwq_explain.specs.Explained.{AreChanges, Explains, IsAnswer, IsAsked, IsUnanswered, IsUnknown, told_along}
use Rattle.cmwq_explain.proofs.TellingLemmas.{kept_so}

pub not_unknown : (question : Question) (S : ScenarioContents) (b : Bool) → (IsUnknown question S → IsTrue b) → b ≡ false → IsUnknown question S → ⊥
not_unknown question S b tells is unknown = let wrong = sym is ∙ tells unknown in cc

empty : (text : List ℕ) → false ≡ has_bytes text → text ≡ []
empty [] is = refl
empty (x ∷ xs) is = let wrong = is in cc

module _ (inquiry : Inquiry) (S : ScenarioContents) where
  abbrev Comes : ScenarioContents → Type 0
  Comes T = IsSettledIf inquiry.settle S T

  -- The reasons, each with what it says.

  data Reason (error : PlayError) : Type 0 where
    unsettled : IsUnsettledIf inquiry.settle S error → Reason error
    unknown : error ≡ errors.NoSuchWork → (T : ScenarioContents) → Comes T → IsUnknown inquiry.question T → Reason error
    past : error ≡ errors.PastEnd → (T : ScenarioContents) (actor : ActorContents) → Comes T → IsRunOf T actor → (IsUnknown inquiry.question T → ⊥) → IsPastEnd inquiry.looks T (expand actor) → Reason error
    silent : error ≡ errors.NoSuchFlush → (T : ScenarioContents) (actor : ActorContents) → IsAsked inquiry S T actor → told_along inquiry T actor ≡ [] → Reason error

  reason : (error : PlayError) → IsUnanswered inquiry S error → Reason error
  reason errors.NoSuchWork told = unknown refl told.0 told.1 told.2
  reason errors.PastEnd told = past refl told.0 told.1 told.2 told.3 told.4 told.5
  reason errors.NoSuchFlush told = silent refl told.0 told.1 told.2 told.3
  reason other told = unsettled told

  -- the scenario comes to one run
  same-run : (Q : ScenarioContents → ActorContents → Type 0) (T U : ScenarioContents) (a b : ActorContents) → Comes T → Comes U → IsRunOf T a → IsRunOf U b → Q T a → Q U b
  same-run Q T U a b first second ran runs is =
      let same = settled_if-once S inquiry.settle T U first second in
      let alone = subst (λ (X : ScenarioContents). X.actors ≡ a ∷ []) same ran.alone in
      subst (λ (x : ActorContents). Q U x) (same_actor U a b alone runs.alone) (subst (λ (X : ScenarioContents). Q X a) same is)

  unknown-there : (T U : ScenarioContents) → Comes T → Comes U → IsUnknown inquiry.question T → IsUnknown inquiry.question U
  unknown-there T U first second is = subst (λ (X : ScenarioContents). IsUnknown inquiry.question X) (settled_if-once S inquiry.settle T U first second) is

  past-there : (T U : ScenarioContents) (a b : ActorContents) → Comes T → Comes U → IsRunOf T a → IsRunOf U b → IsPastEnd inquiry.looks T (expand a) → IsPastEnd inquiry.looks U (expand b)
  past-there T U a b first second ran runs is = same-run (λ X actor. IsPastEnd inquiry.looks X (expand actor)) T U a b first second ran runs is

  reasons-once : (error fault : PlayError) → Reason error → Reason fault → error ≡ fault
  reasons-once error fault (unsettled first) (unsettled second) = unsettled_if-once S inquiry.settle error fault first second
  reasons-once error fault (unsettled first) (unknown is T comes no_work) = absurd (settled_if-well S inquiry.settle T comes error first)
  reasons-once error fault (unsettled first) (past is T actor comes runs known gone) = absurd (settled_if-well S inquiry.settle T comes error first)
  reasons-once error fault (unsettled first) (silent is T actor asked nothing) = absurd (settled_if-well S inquiry.settle T asked.settled error first)
  reasons-once error fault (unknown is T comes no_work) (unsettled second) = absurd (settled_if-well S inquiry.settle T comes fault second)
  reasons-once error fault (unknown is T comes no_work) (unknown same U goes none) = is ∙ sym same
  reasons-once error fault (unknown is T comes no_work) (past same U actor goes runs known gone) = absurd (known (unknown-there T U comes goes no_work))
  reasons-once error fault (unknown is T comes no_work) (silent same U actor asked nothing) = absurd (asked.known (unknown-there T U comes asked.settled no_work))
  reasons-once error fault (past is T actor comes runs known gone) (unsettled second) = absurd (settled_if-well S inquiry.settle T comes fault second)
  reasons-once error fault (past is T actor comes runs known gone) (unknown same U goes no_work) = absurd (known (unknown-there U T goes comes no_work))
  reasons-once error fault (past is T actor comes runs known gone) (past same U other goes ran found ended) = is ∙ sym same
  reasons-once error fault (past is T actor comes runs known gone) (silent same U other asked nothing) = absurd (asked.within (past-there T U actor other comes asked.settled runs asked.runs gone))
  reasons-once error fault (silent is T actor asked nothing) (unsettled second) = absurd (settled_if-well S inquiry.settle T asked.settled fault second)
  reasons-once error fault (silent is T actor asked nothing) (unknown same U goes no_work) = absurd (asked.known (unknown-there U T goes asked.settled no_work))
  reasons-once error fault (silent is T actor asked nothing) (past same U other goes ran found ended) = absurd (asked.within (past-there U T other actor goes asked.settled ran asked.runs ended))
  reasons-once error fault (silent is T actor asked nothing) (silent same U other again none) = is ∙ sym same

  unanswered-once : (error fault : PlayError) → IsUnanswered inquiry S error → IsUnanswered inquiry S fault → error ≡ fault
  unanswered-once error fault first second = reasons-once error fault (reason error first) (reason fault second)

  -- nothing is told of a scenario that has an answer
  apart : (T : ScenarioContents) (actor : ActorContents) → IsAsked inquiry S T actor → told_along inquiry T actor ≢ [] → (error : PlayError) → Reason error → ⊥
  apart T actor asked something error (unsettled told) = settled_if-well S inquiry.settle T asked.settled error told
  apart T actor asked something error (unknown is U goes no_work) = asked.known (unknown-there U T goes asked.settled no_work)
  apart T actor asked something error (past is U other goes runs known gone) = asked.within (past-there U T other actor goes asked.settled runs asked.runs gone)
  apart T actor asked something error (silent is U other again nothing) =
      something (same-run (λ X a. told_along inquiry X a ≡ []) U T other actor again.settled asked.settled again.runs asked.runs nothing)

  answered-well : (T : ScenarioContents) (actor : ActorContents) → IsAsked inquiry S T actor → told_along inquiry T actor ≢ [] → (error : PlayError) → IsUnanswered inquiry S error → ⊥
  answered-well T actor asked something error told = apart T actor asked something error (reason error told)

  answer-well : (output : List ℕ) → IsAnswer inquiry S output → (error : PlayError) → IsUnanswered inquiry S error → ⊥
  answer-well output (T, actor, asked, is, something) error told = answered-well T actor asked (λ none. something (is ∙ none)) error told

  no_text : (fault : AsmError) → IsUnanswered inquiry S (errors.Asm fault) → ⊥
  no_text fault told = no_text-unsettled_if S inquiry.settle fault told

  no_read : IsUnanswered inquiry S errors.Read → ⊥
  no_read told = no_read-unsettled_if S inquiry.settle told

  no_write : IsUnanswered inquiry S errors.Write → ⊥
  no_write told = no_write-unsettled_if S inquiry.settle told

  -- a scenario that can't be run, or settled
  no_other : (settle : Bool) (error : PlayError) → (error ≡ errors.NoSuchWork) ⊎ ((error ≡ errors.PastEnd) ⊎ (error ≡ errors.NoSuchFlush)) → IsUnsettledIf settle S error → ⊥
  no_other true error (inl is) told = subst (λ (e : PlayError). IsUnsettledIf true S e) is told
  no_other true error (inr (inl is)) told = subst (λ (e : PlayError). IsUnsettledIf true S e) is told
  no_other true error (inr (inr is)) told = subst (λ (e : PlayError). IsUnsettledIf true S e) is told
  no_other false error (inl is) told = subst (λ (e : PlayError). IsUnsettledIf false S e) is told
  no_other false error (inr (inl is)) told = subst (λ (e : PlayError). IsUnsettledIf false S e) is told
  no_other false error (inr (inr is)) told = subst (λ (e : PlayError). IsUnsettledIf false S e) is told

  pub unsettled_so : (error : PlayError) → IsUnsettledIf inquiry.settle S error → IsUnanswered inquiry S error
  unsettled_so errors.NoSuchWork told = elim (no_other inquiry.settle errors.NoSuchWork (inl refl) told) [ ]
  unsettled_so errors.PastEnd told = elim (no_other inquiry.settle errors.PastEnd (inr (inl refl)) told) [ ]
  unsettled_so errors.NoSuchFlush told = elim (no_other inquiry.settle errors.NoSuchFlush (inr (inr refl)) told) [ ]
  unsettled_so other told = told

  -- the reason is told before anything is written
  pub explains-first : (before : Option (List ℕ)) (failed : Bool) (error : PlayError) → failed ≡ false → IsUnanswered inquiry S error
      → Explains inquiry S before before failed (Err error)
  explains-first before failed error sound told = record {
    writes = writes_err (AreChanges inquiry S) before failed error sound (λ is. no_write (subst (λ (e : PlayError). IsUnanswered inquiry S e) is told));
    never_quiet = λ is. keeps_same before;
    answered = tt;
    why = inl told;
  }

  -- it couldn't be settled, for some reason or for want of memory
  pub explains-unsettled : (before : Option (List ℕ)) (failed : Bool) (error : PlayError) → failed ≡ false → IsUnsettledIf inquiry.settle S error ⊎ (error ≡ errors.NoMemory)
      → Explains inquiry S before before failed (Err error)
  explains-unsettled before failed error sound (inl told) = explains-first before failed error sound (unsettled_so error told)
  explains-unsettled before failed error sound (inr memory) = record {
    writes = writes_err (AreChanges inquiry S) before failed error sound (λ is. let wrong = sym memory ∙ is in cc);
    never_quiet = λ is. keeps_same before;
    answered = tt;
    why = inr (subst (λ (e : PlayError). IsSendError e) (sym memory) tt);
  }

  module _ (T : ScenarioContents) (comes : Comes T) (actor : ActorContents) (runs : IsRunOf T actor) (known : IsUnknown inquiry.question T → ⊥) where
    abbrev pub Told : Option (List ℕ) → Option (List ℕ) → Bool → Result Bool PlayError → Type 0
    Told before after failed result = TellsText (told_along inquiry T actor) (IsPastEnd inquiry.looks T (expand actor)) before after failed result

    asked : (before after : Option (List ℕ)) (failed told : Bool) → Told before after failed (Ok told) → IsAsked inquiry S T actor
    asked before after failed told said = record { settled = comes; runs = runs; known = known; within = said.within }

    changes : (before after : Option (List ℕ)) (failed : Bool) (r : Result (Unit {0}) PlayError) → Writes (λ output. output ≡ told_along inquiry T actor) before after failed r
        → Writes (AreChanges inquiry S) before after failed r
    changes before after failed r h = writes_more (λ output. output ≡ told_along inquiry T actor) (AreChanges inquiry S) before after failed r (λ output is. (T, actor, comes, runs, is)) h

    -- something was told
    pub explains-told : (before after : Option (List ℕ)) (failed : Bool) → Told before after failed (Ok true) → Explains inquiry S before after failed (Ok tt)
    explains-told before after failed told = record {
      writes = changes before after failed (Ok tt) told.writes;
      never_quiet = λ is. let wrong = is in cc;
      answered = (T, actor, asked before after failed true told, λ none. let wrong : true ≡ false = told.told ∙ ap has_bytes none in cc);
      why = tt;
    }

    -- nothing was
    pub explains-silent : (before after : Option (List ℕ)) (failed : Bool) → Told before after failed (Ok false) → Explains inquiry S before after failed (Err errors.NoSuchFlush)
    explains-silent before after failed told = record {
      writes = record {
        wrote = tt;
        write = (λ is. cc, λ broken. let wrong = told.writes.write.1 broken in cc);
        front = λ is. cc;
        no_memory = λ is. cc;
        silent = λ before_writing. kept_so before after (subst (λ (t : List ℕ). Appends before after t) (told.writes.wrote.1 ∙ nothing) told.writes.wrote.2);
      };
      never_quiet = λ is. let wrong = is in cc;
      answered = tt;
      why = inl (T, actor, asked before after failed false told, nothing);
    } where
      nothing : told_along inquiry T actor ≡ []
      nothing = empty (told_along inquiry T actor) told.told

    -- the run ends before, or the sending failed
    pub explains-failed : (before after : Option (List ℕ)) (failed : Bool) (error : PlayError) → Told before after failed (Err error) → Explains inquiry S before after failed (Err error)
    explains-failed before after failed error told = record {
      writes = changes before after failed (Err error) told.writes;
      never_quiet = λ is. absurd (no_quiet error told.why (let same : error ≡ errors.NeverQuiet = cc in same));
      answered = tt;
      why = by error told.why (λ is. told.past_end (ap Err is));
    } where
      by : (e : PlayError) → IsTellError e → (e ≡ errors.PastEnd → IsPastEnd inquiry.looks T (expand actor)) → IsUnanswered inquiry S e ⊎ IsSendError e
      by errors.PastEnd tell gone = inl (T, actor, comes, runs, known, gone refl)
      by errors.Write tell gone = inr tell
      by errors.NoMemory tell gone = inr tell
      by other tell gone = elim tell [ ]

      no_quiet : (e : PlayError) → IsTellError e → e ≡ errors.NeverQuiet → ⊥
      no_quiet e tell is = subst (λ (x : PlayError). IsTellError x) is tell

  -- The command.

  pub reads-nothing : (r : Result (Unit {0}) PlayError) → IfErr r (λ error. IsUnanswered inquiry S error ⊎ IsSendError error) → r ≢ Err errors.Read
  reads-nothing (Ok done) why is = cc
  reads-nothing (Err error) (inl told) is = no_read (subst (λ (e : PlayError). IsUnanswered inquiry S e) (let same : error ≡ errors.Read = cc in same) told)
  reads-nothing (Err error) (inr sent) is = let same : error ≡ errors.Read = cc in subst (λ (e : PlayError). IsSendError e) same sent

  sent-outside : (error : PlayError) → IsSendError error → IsOutside error
  sent-outside errors.Write sent = tt
  sent-outside errors.NoMemory sent = tt
  sent-outside other sent = elim sent [ ]

  -- the text spells a scenario, and this becomes of the question to it
  pub answers-explained : {A : Type 0} (x : A) (input before after : Option (List ℕ)) (failed : Bool) (r : Result (Unit {0}) PlayError) → Explains inquiry S before after failed r → IsSpelled input S
      → IfSome input (λ text. (T : ScenarioContents) → Spells text T → S ≡ T) → Answers {A = A} IsSpelled IsTextFault input (Ok x)
      → Answers {A = Unit {0}} (ComesTo (IsAnswer inquiry)) (IsFaultOf (IsUnanswered inquiry)) input r
  answers-explained x input before after failed (Ok done) told found only h =
      answers_well (IsAnswer inquiry) (IsUnanswered inquiry) S x input (Ok done) (λ fault is. answered-well told.answered.0 told.answered.1 told.answered.2 told.answered.3 fault is) tt only h
  answers-explained x input before after failed (Err error) told found only h = by_reason told.why where
    by_reason : IsUnanswered inquiry S error ⊎ IsSendError error → Answers {A = Unit {0}} (ComesTo (IsAnswer inquiry)) (IsFaultOf (IsUnanswered inquiry)) input (Err error)
    by_reason (inl is) =
        answers_told (IsAnswer inquiry) (IsUnanswered inquiry) S x input error is no_text (λ fault other. unanswered-once error fault is other)
        (λ output answer. answer-well output answer error is) found only h
    by_reason (inr sent) = answers_outside (ComesTo (IsAnswer inquiry)) (IsFaultOf (IsUnanswered inquiry)) input error (sent-outside error sent)
