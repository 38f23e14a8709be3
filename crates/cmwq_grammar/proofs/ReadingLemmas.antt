-- Whole texts: what is read is spelled so, and what is spelled so is read.
use Rattle.std.proofs.Common.{◌≡◌, ℕ, suc, ◌+◌, true, false, not, List, [], ◌∷◌, ◌++◌, length, cond, eqb, ltb, Result, Ok, Err, arith, refl, sym, ap, ◌∙◌, inl, inr, subst, append-nil}
use Rattle.std.proofs.lemmas.Bool.Decides.{nat_tests}
use Rattle.std.specs.Str.{is_utf8}
use Rattle.cmwq_types.specs.Contents.{ScenarioContents, WorkContents, ActorContents}
use Rattle.cmwq_types.specs.Listing.{WrittenLine, written}
use Rattle.cmwq_types.specs.declared.check.Fault.TheVariants as fault
use Rattle.cmwq_types.specs.declared.limits.TheConstants.{MAX_TEXT}
use Rattle.cmwq_types.specs.declared.scenario.Line.{Line}
use Rattle.cmwq_grammar.specs.Cutting.{is_empty, lines_of, worded, words_of}
use Rattle.cmwq_grammar.specs.Grammar.{SayAll, Spells}
use Rattle.cmwq_grammar.specs.Meaning.{FaultAt, at_line, ends_before, fault_at, reads, reads_lines, stage_after}
use Rattle.cmwq_grammar.specs.LineReasons.{all_have_bodies, at_end, judge, step, with_works}
use Rattle.cmwq_grammar.specs.Stages.{Stage, Start, Cpus, Workers, Steps, Queues, Works, Bodies, Body, Actor, with_actor}
use Rattle.cmwq_grammar.specs.declared.why.Why.{Why}
use Rattle.cmwq_grammar.specs.declared.why.Why.TheVariants as why
use Rattle.cmwq_grammar.proofs.Basics.{bind_ok, chosen, cond_yes, fine, ok_same, value_if_ok, not_below}
use Rattle.cmwq_grammar.proofs.Continuations.{Continues, Sound, SoundBodies, SoundQueues, rest_lines}
use Rattle.cmwq_grammar.proofs.GoodScenario.{Good, valid_from_good}
use Rattle.cmwq_grammar.proofs.Soundness.{sound_all}
use Rattle.cmwq_grammar.proofs.StepRead.{ReadOn, all_declared, step_read}
use Rattle.cmwq_grammar.proofs.Utf8Lemmas.{AllUtf8, text_utf8}

-- One line.

pub judged : (stage next : Stage) (line : List ℕ) → judge stage line ≡ Ok next → (is_utf8 line ≡ true) × (step stage (words_of line) ≡ Ok next)
unfolding judge
judged stage next line e =
    elim (chosen (is_utf8 line) (step stage (words_of line)) (Err why.BadUtf8) (fine next) e) [
      | inl it ↦ it
      | inr it ↦ absurd (not_fine it.1)
    ]
  where
    not_fine : Err why.BadUtf8 ≡ fine next → ⊥
    not_fine h = cc

pub judges : (stage : Stage) (line : List ℕ) (words : List (List ℕ)) → is_utf8 line ≡ true → words_of line ≡ words → judge stage line ≡ step stage words
unfolding judge
judges stage line words utf8 e = cond_yes (is_utf8 line) (step stage (words_of line)) (Err why.BadUtf8) utf8 ∙ ap (step stage) e

pub step_nothing : (stage : Stage) → step stage [] ≡ Ok stage
unfolding step
step_nothing stage = refl

pub line_ok : {A : Type 0} (n : ℕ) (r : Result A Why) (x : A) → at_line n r ≡ Ok x → r ≡ Ok x
line_ok n (Ok y) x e = ap fine (same y x e)
  where
    same : {A : Type 0} (a b : A) → at_line n (fine a) ≡ at_line n (fine b) → a ≡ b
    same a b h = cc
line_ok n (Err reason) x e = cc

-- the words of a line that has some come first
abbrev pub worded_on : List (List ℕ) → List (List (List ℕ)) → List (List (List ℕ))
worded_on words more = cond (not (is_empty words)) (words ∷ more) more

pub with_words : (word : List ℕ) (rest : List (List ℕ)) (more : List (List (List ℕ))) → worded_on (word ∷ rest) more ≡ (word ∷ rest) ∷ more
with_words word rest more = cond_yes (not (is_empty (word ∷ rest))) ((word ∷ rest) ∷ more) more (ap not (some (length rest)))
  where
    some : (n : ℕ) → eqb (suc n) 0 ≡ false
    some n = grind (arith, nat_tests)

-- Read means said.

-- the lines that were read say these
pub record LinesRead (stage : Stage) (said : List (List (List ℕ))) (next : Stage) : Type 0 where
  pub sound : Sound next
  pub front : (lines : List WrittenLine) (S : ScenarioContents) → Continues next lines S → (before : List WrittenLine) × SayAll before said × Continues stage (before ++ lines) S

read_on : (stage middle next : Stage) (words : List (List ℕ)) (more : List (List (List ℕ))) → Sound stage → step stage words ≡ Ok middle
    → (Sound middle → LinesRead middle more next) → LinesRead stage (worded_on words more) next
read_on stage middle next [] more sound e later =
    let same : stage ≡ middle = ok_same stage middle (sym (step_nothing stage) ∙ e) in
    subst (λ (σ : Stage). LinesRead σ more next) (sym same) (later (subst Sound same sound))
read_on stage middle next (word ∷ rest) more sound e later =
    let read : ReadOn stage (word ∷ rest) middle = step_read stage word rest middle sound e in
    let after : LinesRead middle more next = later read.sound in
    subst (λ (said : List (List (List ℕ))). LinesRead stage said next) (sym (with_words word rest more)) (record {
      sound = after.sound;
      front = λ lines S left.
          let told = after.front lines S left in
          let line = read.line (told.0 ++ lines) S told.2 in
          (line.0 ∷ told.0, (line.1, told.1), line.2);
    })

pub sound_after : (stage next : Stage) (words : List (List ℕ)) → Sound stage → step stage words ≡ Ok next → Sound next
sound_after stage next [] sound e = subst Sound (ok_same stage next (sym (step_nothing stage) ∙ e)) sound
sound_after stage next (word ∷ rest) sound e = (step_read stage word rest next sound e).sound

pub all_read : (n : ℕ) (lines : List (List ℕ)) (stage next : Stage) → Sound stage → stage_after n lines stage ≡ Ok next
    → LinesRead stage (worded lines) next × AllUtf8 lines
unfolding stage_after
all_read n [] stage next sound e =
    let same : stage ≡ next = stage_same stage next e in
    (subst (λ (σ : Stage). LinesRead stage [] σ) same (record { sound = sound; front = λ lines S left. ([], tt, left) }), tt)
  where
    stage_same : (a b : Stage) → at_line 0 (fine a) ≡ at_line 0 (fine b) → a ≡ b
    stage_same a b h = cc
all_read n (line ∷ lines) stage next sound e =
    let there : (σ : Stage) × (at_line n (judge stage line) ≡ Ok σ) × (stage_after (n + 1) lines σ ≡ Ok next) =
    bind_ok (at_line n (judge stage line)) (stage_after (n + 1) lines) next e in
    let one : (is_utf8 line ≡ true) × (step stage (words_of line) ≡ Ok there.0) = judged stage there.0 line (line_ok n (judge stage line) there.0 there.1) in
    let middle : Sound there.0 = sound_after stage there.0 (words_of line) sound one.1 in
    let later : LinesRead there.0 (worded lines) next × AllUtf8 lines = all_read (n + 1) lines there.0 next middle there.2 in
    (read_on stage there.0 next (words_of line) (worded lines) sound one.1 (λ s. later.0), (one.0, later.1))

-- The end of a text.

abbrev pub EndsAs : Stage → ScenarioContents → Type 0
EndsAs stage S = Continues stage [] S × Good S

no_scenario : {A : Type 0} (reason : Why) (S : ScenarioContents) → Err reason ≡ fine S → A
no_scenario reason S e = cc

pub queues_end : (D S : ScenarioContents) → SoundQueues D → D ≡ S → EndsAs (Queues D) S
queues_end D S sound e =
    subst (λ (T : ScenarioContents). EndsAs (Queues D) T) e (
      record {
        head = record { cpus = refl; workers = refl; steps = refl; flushes = refl };
        more = [];
        queues = sym (append-nil D.queues);
        said = sym (ap (λ (ws : List WorkContents). rest_lines D [] ws ws D.actors) sound.no_works ∙ ap (λ (as_ : List ActorContents). rest_lines D [] [] [] as_) sound.no_actors);
      },
      sound.good,
    )

bodies_end : (D S : ScenarioContents) (done : List WorkContents) → SoundBodies D done → all_have_bodies D done ≡ true → with_works D done ≡ S → EndsAs (Bodies D done) S
bodies_end D S done sound all e =
    subst (λ (T : ScenarioContents). EndsAs (Bodies D done) T) e (
      record {
        head = record { cpus = refl; workers = refl; steps = refl; flushes = refl };
        queues = refl;
        more = [];
        works = sym (append-nil done);
        declared = all_declared D done sound all;
        said = sym (ap (λ (as_ : List ActorContents). rest_lines (with_works D done) [] [] [] as_) sound.no_actors);
      },
      sound_all D done sound all,
    )

pub actor_ends : (D S : ScenarioContents) (name : List ℕ) (given : List Line) → Good (with_actor D name given) → with_actor D name given ≡ S
    → EndsAs (Actor D name given) S
actor_ends D S name given good e =
    subst (λ (T : ScenarioContents). EndsAs (Actor D name given) T) e (
      record {
        head = record { cpus = refl; workers = refl; steps = refl; flushes = refl };
        queues = refl;
        works = refl;
        left = [];
        more = [];
        actors = ap (λ (ls : List Line). D.actors ++ record { name = name; lines = ls } ∷ []) (sym (append-nil given));
        said = refl;
      },
      good,
    )

pub end_read : (stage : Stage) (S : ScenarioContents) → Sound stage → at_end stage ≡ Ok S → EndsAs stage S
unfolding at_end
end_read Start S sound e = no_scenario why.MissingWord S e
end_read (Cpus cpus) S sound e = no_scenario why.MissingWord S e
end_read (Workers cpus workers) S sound e = no_scenario why.MissingWord S e
end_read (Steps cpus workers steps) S sound e = no_scenario why.MissingWord S e
end_read (Queues D) S sound e = queues_end D S sound (ok_same D S e)
end_read (Works D) S sound e = no_scenario why.MissingWord S e
end_read (Bodies D done) S sound e =
    let all : (all_have_bodies D done ≡ true) × (with_works D done ≡ S) = value_if_ok (all_have_bodies D done) (with_works D done) why.MissingWord S e in
    bodies_end D S done sound all.0 all.1
end_read (Body D done ops) S sound e = no_scenario (why.Fault fault.BadBody) S e
end_read (Actor D name given) S sound e = actor_ends D S name given sound (ok_same (with_actor D name given) S e)

-- A text that is read as a scenario is that scenario's.

pub lines_read : (lines : List (List ℕ)) (S : ScenarioContents) → reads_lines lines ≡ Ok S → SayAll (written S) (worded lines) × Good S × AllUtf8 lines
unfolding reads_lines
lines_read lines S e =
    let there : (σ : Stage) × (stage_after 1 lines Start ≡ Ok σ) × (ends_before (length lines + 1) σ ≡ Ok S) =
    bind_ok (stage_after 1 lines Start) (ends_before (length lines + 1)) S e in
    let read : LinesRead Start (worded lines) there.0 × AllUtf8 lines = all_read 1 lines Start there.0 tt there.1 in
    let ends : EndsAs there.0 S = end_read there.0 S (read.0).sound (line_ok (length lines + 1) (at_end there.0) S there.2) in
    let told = (read.0).front [] S ends.0 in
    let whole : told.0 ≡ written S = sym (append-nil told.0) ∙ told.2 in
    (subst (λ (ls : List WrittenLine). SayAll ls (worded lines)) whole told.1, ends.1, read.1)

pub read_spells : (text : List ℕ) (S : ScenarioContents) → reads text ≡ Ok S → Spells text S
unfolding reads
read_spells text S e =
    elim (chosen (ltb MAX_TEXT (length text)) (Err (fault_at 0 why.TooLong)) (reads_lines (lines_of text)) (Ok S) e) [
      | inl long ↦ absurd (not_ok long.1)
      | inr it ↦ (let read : SayAll (written S) (worded (lines_of text)) × Good S × AllUtf8 (lines_of text) = lines_read (lines_of text) S it.1 in
          let valid = valid_from_good S read.1 in
          record {
            short = not_below (length text) MAX_TEXT it.0;
            is_text = record { utf8 = text_utf8 text read.2; lines = read.0; valid = valid.0; scenario = valid.1 };
          })
    ]
  where
    as_ok : ScenarioContents → Result ScenarioContents FaultAt
    as_ok T = Ok T

    not_ok : Err (fault_at 0 why.TooLong) ≡ as_ok S → ⊥
    not_ok h = cc
