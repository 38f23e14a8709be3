-- What is spelled is read as it, up to any line of a text.
use Rattle.std.proofs.Common.{◌≡◌, ℕ, ◌+◌, ◌≤◌, true, List, [], ◌∷◌, ◌++◌, map, length, ltb, Result, Ok, Err, arith, refl, sym, ap, ◌∙◌, subst, append-nil, length-append}
use Rattle.std.proofs.lemmas.List.{length-map}
use Rattle.std.specs.Str.{is_utf8}
use Rattle.cmwq_types.specs.Contents.{ScenarioContents, WorkContents, ActorContents}
use Rattle.cmwq_types.specs.Listing.{WrittenLine, actor_line, op_line, written}
use Rattle.cmwq_types.specs.declared.limits.TheConstants.{MAX_TEXT}
use Rattle.cmwq_types.specs.declared.scenario.Line.{Line}
use Rattle.cmwq_types.specs.declared.scenario.Op.{Op}
use Rattle.cmwq_types.specs.declared.scenario.Op.TheVariants as op
use Rattle.cmwq_types.specs.declared.scenario.QueueDecl.{QueueDecl}
use Rattle.cmwq_grammar.specs.Cutting.{lines_of, worded, words_of}
use Rattle.cmwq_grammar.specs.Grammar.{SayAll, Spells}
use Rattle.cmwq_grammar.specs.Meaning.{FaultAt, at_line, ends_before, fault_at, reads, reads_lines, stage_after}
use Rattle.cmwq_grammar.specs.LineReasons.{all_have_bodies, at_end, judge, step, with_works}
use Rattle.cmwq_grammar.specs.Stages.{Stage, Start, Cpus, Workers, Steps, Queues, Works, Bodies, Body, Actor, with_actor}
use Rattle.cmwq_grammar.specs.declared.why.Why.TheVariants as why
use Rattle.cmwq_grammar.proofs.Basics.{bind_at, cond_no, fine, value_if_at, not_below_is, equal_is}
use Rattle.cmwq_grammar.proofs.Continuations.{ActorLeft, BodiesLeft, BodyLeft, Continues, QueuesLeft, SameHead, Sound, SoundBodies, SoundBody, SoundQueues, SoundWorks, WorksLeft, bare, rest_lines}
use Rattle.cmwq_grammar.proofs.GoodScenario.{Good, GoodBody, good_from_valid}
use Rattle.cmwq_grammar.proofs.ReadingLemmas.{judges, sound_after, step_nothing, with_words, worded_on}
use Rattle.cmwq_grammar.proofs.StepSaid.{TakenOn, body_of, fronts, step_said}
use Rattle.cmwq_grammar.proofs.Utf8Lemmas.{AllUtf8, lines_utf8}

-- these lines are read, and what says the rest goes on
pub record Reached (n : ℕ) (lines more : List (List ℕ)) (stage : Stage) (S : ScenarioContents) : Type 0 where
  pub next : Stage
  pub reached : stage_after n lines stage ≡ Ok next
  pub sound : Sound next
  pub left : List WrittenLine
  pub continues : Continues next left S
  pub says : SayAll left (worded more)

-- reading goes on so from each stage that these lines can follow
abbrev GoesOn : ℕ → List (List ℕ) → List (List ℕ) → ScenarioContents → Type 0
GoesOn n lines more S =
    (stage : Stage) (left : List WrittenLine) → Sound stage → Continues stage left S → SayAll left (worded (lines ++ more)) → Reached n lines more stage S

abbrev reached_by : (n : ℕ) (line : List ℕ) (lines more : List (List ℕ)) (stage next : Stage) (S : ScenarioContents) → judge stage line ≡ Ok next
    → Reached (n + 1) lines more next S → Reached n (line ∷ lines) more stage S
unfolding stage_after
reached_by n line lines more stage next S e later = record {
  next = later.next;
  reached = bind_at (at_line n (judge stage line)) (stage_after (n + 1) lines) next (ap (at_line n) e) ∙ later.reached;
  sound = later.sound;
  left = later.left;
  continues = later.continues;
  says = later.says;
}

line_said : (n : ℕ) (line : List ℕ) (lines more : List (List ℕ)) (S : ScenarioContents) → Good S → is_utf8 line ≡ true → (words : List (List ℕ)) → words_of line ≡ words
    → (stage : Stage) (left : List WrittenLine) → Sound stage → Continues stage left S
    → SayAll left (worded_on words (worded (lines ++ more))) → GoesOn (n + 1) lines more S → Reached n (line ∷ lines) more stage S
line_said n line lines more S good utf8 [] e stage left sound continues says later =
    reached_by n line lines more stage stage S (judges stage line [] utf8 e ∙ step_nothing stage) (later stage left sound continues says)
line_said n line lines more S good utf8 (word ∷ rest) e stage left sound continues says later =
    taken left continues (subst (λ (ws : List (List (List ℕ))). SayAll left ws) (with_words word rest (worded (lines ++ more))) says)
  where
    taken : (ls : List WrittenLine) → Continues stage ls S → SayAll ls ((word ∷ rest) ∷ worded (lines ++ more)) → Reached n (line ∷ lines) more stage S
    taken [] c s = absurd s
    taken (l ∷ ls) c s =
        let on : TakenOn stage (word ∷ rest) ls S = step_said stage l ls S (word ∷ rest) sound good c s.0 in
        let step_is : step stage (word ∷ rest) ≡ Ok on.next = ap (step stage) on.whole ∙ on.taken in
        reached_by n line lines more stage on.next S (judges stage line (word ∷ rest) utf8 e ∙ step_is)
        (later on.next ls (sound_after stage on.next (word ∷ rest) sound step_is) on.continues s.1)

pub all_said : (n : ℕ) (lines more : List (List ℕ)) (S : ScenarioContents) → Good S → AllUtf8 lines → GoesOn n lines more S
unfolding stage_after
all_said n [] more S good utf8 stage left sound continues says = record { next = stage; reached = refl; sound = sound; left = left; continues = continues; says = says }
all_said n (line ∷ lines) more S good utf8 stage left sound continues says =
    line_said n line lines more S good utf8.0 (words_of line) refl stage left sound continues says (all_said (n + 1) lines more S good utf8.1)

-- The end of a text.

-- no queue, work, body or actor is left
record NoneLeft (queues : List QueueDecl) (works bodies : List WorkContents) (actors : List ActorContents) : Type 0 where
  queues_end : queues ≡ []
  works_end : works ≡ []
  bodies_end : bodies ≡ []
  actors_end : actors ≡ []

none_left : (S : ScenarioContents) (queues : List QueueDecl) (works bodies : List WorkContents) (actors : List ActorContents)
    → [] ≡ rest_lines S queues works bodies actors → NoneLeft queues works bodies actors
none_left S (q ∷ queues) works bodies actors e = cc
none_left S [] (w ∷ works) bodies actors e = cc
none_left S [] [] (b ∷ bodies) actors e = cc
none_left S [] [] [] (a ∷ actors) e = cc
none_left S [] [] [] [] e = record { queues_end = refl; works_end = refl; bodies_end = refl; actors_end = refl }

abbrev scenario_of : ℕ → ℕ → ℕ → ℕ → List QueueDecl → List WorkContents → List ActorContents → ScenarioContents
scenario_of cpus workers steps flushes queues works actors =
    record { cpus = cpus; workers = workers; steps = steps; flushes = flushes; queues = queues; works = works; actors = actors }

-- two scenarios of the same parts
same_scenario : (D S : ScenarioContents) → SameHead D S → D.queues ≡ S.queues → D.works ≡ S.works → D.actors ≡ S.actors → D ≡ S
same_scenario D S head queues works actors =
    ap (λ (n : ℕ). scenario_of n D.workers D.steps D.flushes D.queues D.works D.actors) head.cpus
    ∙ ap (λ (n : ℕ). scenario_of S.cpus n D.steps D.flushes D.queues D.works D.actors) head.workers
    ∙ ap (λ (n : ℕ). scenario_of S.cpus S.workers n D.flushes D.queues D.works D.actors) head.steps
    ∙ ap (λ (n : ℕ). scenario_of S.cpus S.workers S.steps n D.queues D.works D.actors) head.flushes
    ∙ ap (λ (qs : List QueueDecl). scenario_of S.cpus S.workers S.steps S.flushes qs D.works D.actors) queues
    ∙ ap (λ (ws : List WorkContents). scenario_of S.cpus S.workers S.steps S.flushes S.queues ws D.actors) works
    ∙ ap (λ (as_ : List ActorContents). scenario_of S.cpus S.workers S.steps S.flushes S.queues S.works as_) actors

queues_end_said : (D S : ScenarioContents) → SoundQueues D → QueuesLeft D [] S → fine D ≡ Ok S
queues_end_said D S sound left =
    let none : NoneLeft left.more S.works S.works S.actors = none_left S left.more S.works S.works S.actors left.said in
    ap fine (same_scenario D S left.head (sym (left.queues ∙ ap (λ (qs : List QueueDecl). D.queues ++ qs) none.queues_end ∙ append-nil D.queues))
    (sound.no_works ∙ sym none.works_end) (sound.no_actors ∙ sym none.actors_end))

works_end_said : {A : Type 0} (D S : ScenarioContents) → SoundWorks D → WorksLeft D [] S → A
works_end_said D S sound left =
    let none : NoneLeft [] left.more S.works S.actors = none_left S [] left.more S.works S.actors left.said in
    let zero_works : length S.works ≡ 0 = ap length none.bodies_end in
    let whole : length S.works ≡ length left.front + length left.more = ap length left.works ∙ length-append left.front left.more in
    let size : length D.works ≡ length left.front = ap length left.declared ∙ length-map left.front bare in
    absurd (omega (arith, sound.some))

bodies_end_said : (D S : ScenarioContents) (done : List WorkContents) → SoundBodies D done → BodiesLeft D done [] S
    → (all_have_bodies D done ≡ true) × (with_works D done ≡ S)
bodies_end_said D S done sound left =
    let none : NoneLeft [] [] left.more S.actors = none_left S [] [] left.more S.actors left.said in
    let works : S.works ≡ done = left.works ∙ ap (λ (ws : List WorkContents). done ++ ws) none.bodies_end ∙ append-nil done in
    let size : length D.works ≡ length done = ap length left.declared ∙ length-map S.works bare ∙ ap length works in
    let head = left.head in (
      equal_is (length done) (length D.works) (sym size),
      same_scenario (with_works D done) S (record { cpus = head.cpus; workers = head.workers; steps = head.steps; flushes = head.flushes }) (sym left.queues) (sym works) (sound.no_actors ∙ sym none.actors_end),
    )

body_end_said : {A : Type 0} (D S : ScenarioContents) (done : List WorkContents) (ops : List Op) → SoundBody D done ops → Good S → (left : BodyLeft D done ops [] S) → A
body_end_said D S done ops sound good left =
    let none : left.left ≡ [] = no_ops left.left left.said in
    let x = left.work in
    let is : x.body ≡ ops = left.body ∙ ap (λ (os : List Op). ops ++ os) none ∙ append-nil ops in
    let body : GoodBody S.cpus (length S.works) x.body = body_of S done x left.more good left.works in
    let short : length ops ≤ length body.ops = fronts ops [] body.ops sound.others (append-nil ops ∙ sym is ∙ body.whole) in
    let size : length x.body ≡ length ops = ap length is in
    let whole : length x.body ≡ length body.ops + 1 = ap length body.whole ∙ length-append body.ops (op.Finish ∷ []) in
    absurd (omega arith)
  where
    no_ops : (os : List Op) → [] ≡ map (op_line S) os ++ rest_lines S [] [] left.more S.actors → os ≡ []
    no_ops [] e = refl
    no_ops (o ∷ os) e = cc

actor_end_said : (D S : ScenarioContents) (name : List ℕ) (given : List Line) → ActorLeft D name given [] S → with_actor D name given ≡ S
actor_end_said D S name given left =
    let none : left.left ≡ [] = no_lines left.left left.said in
    let last : [] ≡ rest_lines S [] [] [] left.more = left.said ∙ ap (λ (ls : List Line). map (actor_line S) ls ++ rest_lines S [] [] [] left.more) none in
    let no_more : NoneLeft [] [] [] left.more = none_left S [] [] [] left.more last in
    let actors : S.actors ≡ D.actors ++ record { name = name; lines = given } ∷ [] =
    left.actors ∙ ap (λ (ls : List Line). D.actors ++ record { name = name; lines = given ++ ls } ∷ left.more) none
    ∙ ap (λ (ls : List Line). D.actors ++ record { name = name; lines = ls } ∷ left.more) (append-nil given)
    ∙ ap (λ (as_ : List ActorContents). D.actors ++ record { name = name; lines = given } ∷ as_) no_more.actors_end in
    let head = left.head in
    same_scenario (with_actor D name given) S (record { cpus = head.cpus; workers = head.workers; steps = head.steps; flushes = head.flushes }) (sym left.queues) (sym left.works) (sym actors)
  where
    no_lines : (ls : List Line) → [] ≡ map (actor_line S) ls ++ rest_lines S [] [] [] left.more → ls ≡ []
    no_lines [] e = refl
    no_lines (l ∷ ls) e = cc

short_head : {A : Type 0} (S : ScenarioContents) (ls : List WrittenLine) → length ls ≤ 3 → ls ≡ written S → A
short_head S ls few e = (let size : length ls ≡ length (written S) = ap length e in absurd (omega arith))

pub end_said : (stage : Stage) (S : ScenarioContents) → Sound stage → Good S → Continues stage [] S → at_end stage ≡ Ok S
unfolding at_end
end_said Start S sound good left = short_head S [] (omega arith) left
end_said (Cpus cpus) S sound good left = short_head S _ (omega arith) left.1
end_said (Workers cpus workers) S sound good left = short_head S _ (omega arith) left.2
end_said (Steps cpus workers steps) S sound good left = short_head S _ (omega arith) left.3
end_said (Queues D) S sound good left = queues_end_said D S sound left
end_said (Works D) S sound good left = works_end_said D S sound left
end_said (Bodies D done) S sound good left =
    let ends = bodies_end_said D S done sound left in
    value_if_at (all_have_bodies D done) (with_works D done) why.MissingWord ends.0 ∙ ap fine ends.1
end_said (Body D done ops) S sound good left = body_end_said D S done ops sound good left
end_said (Actor D name given) S sound good left = ap fine (actor_end_said D S name given left)

-- A scenario's text is read as it.

-- nothing is left to be said
nothing_left : (left : List WrittenLine) → SayAll left [] → left ≡ []
nothing_left [] says = refl
nothing_left (l ∷ left) says = absurd says

pub text_reads : (lines : List (List ℕ)) (S : ScenarioContents) → AllUtf8 lines → Good S → SayAll (written S) (worded lines) → reads_lines lines ≡ Ok S
unfolding reads_lines
text_reads lines S utf8 good says =
    let on : Reached 1 lines [] Start S =
    all_said 1 lines [] S good utf8 Start (written S) tt refl (subst (λ (ls : List (List ℕ)). SayAll (written S) (worded ls)) (sym (append-nil lines)) says) in
    let none : on.left ≡ [] = nothing_left on.left on.says in
    let ends : at_end on.next ≡ Ok S = end_said on.next S on.sound good (subst (λ (ls : List WrittenLine). Continues on.next ls S) none on.continues) in
    bind_at (stage_after 1 lines Start) (ends_before (length lines + 1)) on.next on.reached ∙ ap (at_line (length lines + 1)) ends

pub spelled_reads : (text : List ℕ) (S : ScenarioContents) → Spells text S → reads text ≡ Ok S
unfolding reads
spelled_reads text S spells =
    let is = spells.is_text in
    let good : Good S = good_from_valid S is.valid is.scenario in
    cond_no (ltb MAX_TEXT (length text)) (Err (fault_at 0 why.TooLong)) (reads_lines (lines_of text)) (not_below_is (length text) MAX_TEXT spells.short)
    ∙ text_reads (lines_of text) S (lines_utf8 text is.utf8) good is.lines

-- a text reads as one scenario
pub one_spelled : (text : List ℕ) (S T : ScenarioContents) → Spells text S → Spells text T → S ≡ T
one_spelled text S T first second = same (sym (spelled_reads text S first) ∙ spelled_reads text T second)
  where
    as_ok : ScenarioContents → Result ScenarioContents FaultAt
    as_ok U = Ok U

    same : as_ok S ≡ as_ok T → S ≡ T
    same e = cc
