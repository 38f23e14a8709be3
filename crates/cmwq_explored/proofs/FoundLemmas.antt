-- The text of an order that was found.
use Rattle.std.proofs.Common.{◌≡◌, ◌⊎◌, ℕ, zero, suc, ◌+◌, ◌*◌, ◌<◌, ◌≤◌, Bool, true, false, List, [], ◌∷◌, ◌++◌, map, length, replicate, get_or, cond, Option, Some, None, arith, refl, sym, ap, ◌∙◌, subst, length-append, codes}
use Rattle.std.proofs.lemmas.List.{length-map}
use Rattle.std.proofs.lemmas.List.Elements.{All-from_recursion}
use Rattle.std.specs.List.{All, AllByRecursion, flat_map, slice_get}
use Rattle.std.specs.Prelude.{IsTrue, slice_index_or}
use Rattle.cmwq_types.specs.Contents.{ActorContents, ScenarioContents}
use Rattle.cmwq_types.specs.Faults.{IsValid, names_declared}
use Rattle.cmwq_types.specs.Listing.{listing}
use Rattle.cmwq_types.specs.Scenario.{expand, expand_lines}
use Rattle.cmwq_types.specs.Values.{IsScenario}
use Rattle.cmwq_types.specs.declared.instr.Instr.{Instr}
use Rattle.cmwq_types.specs.declared.instr.Instr.TheVariants as instr
use Rattle.cmwq_types.specs.declared.limits.TheConstants.{MAX_ACTORS, MAX_LINES, MAX_TEXT}
use Rattle.cmwq_types.specs.declared.reply.Reply.{Reply}
use Rattle.cmwq_types.specs.declared.scenario.Line.{Line as ActorLine}
use Rattle.std.specs.Fmt.{decimal}
use Rattle.cmwq_table.specs.Events.{is_silent, reply_words}
use Rattle.cmwq_table.specs.State.{State}
use Rattle.cmwq_table.specs.State as states
use Rattle.cmwq_table.specs.Laws.{goes_on}
use Rattle.cmwq_table.specs.Table.{after_all, run, table}
use Rattle.cmwq_grammar.specs.Comments.{listing_room}
use Rattle.cmwq_grammar.specs.Grammar.{Spells}
use Rattle.cmwq_orders.proofs.OrderLemmas.{none_some, own-taken}
use Rattle.cmwq_orders.specs.Laws.{OrdersAreRuns}
use Rattle.cmwq_orders.specs.Orders.{Explored, and_then, and_then_told, apart, instr_taken, instrs_from, instrs_of, is_own, lines_at, lines_of, next_line, no_actor, reached, reached_from, stands, start, taken}
use Rattle.cmwq_orders.specs.declared.choice.Before.{Before}
use Rattle.cmwq_orders.specs.declared.choice.Choice.{Choice}
use Rattle.cmwq_orders.specs.declared.choice.Choice.TheVariants.{Line, Own}
use Rattle.cmwq_orders.specs.declared.question.Question.{Question}
use Rattle.cmwq_annotated.proofs.CallerLemmas.{Declared, acted_valid, all_append, few_actors, valid_declared}
use Rattle.cmwq_annotated.specs.Notes.{AreNotes, NotesMayFollow, note_lines, reply_notes}
use Rattle.cmwq_explore.specs.Retracing.{and_then_step, rests, rests_below, steps_from, steps_of}
use Rattle.cmwq_explore.specs.declared.retracing.Rest.{Rest}
use Rattle.cmwq_explore.specs.declared.retracing.Rest.TheVariants.{Ended, Waits, IsBefore}
use Rattle.cmwq_explored.specs.Exploring.{Shows}
use Rattle.cmwq_explored.specs.Found.{found, found_notes, found_text, notes_of_step, rest_notes, rest_notes_of, step_notes}
use Rattle.cmwq_explored.specs.Names.{HasName, HasNames}

-- Steps have the order's instructions.

module _ (S : ScenarioContents) (before : List Before) where
  steps-instrs : (cs : List Choice) (e : Explored) → map (λ (step : Choice × Instr). step.1) (steps_from S before cs e) ≡ instrs_from S before cs e
  steps-instrs [] e = refl
  steps-instrs (c ∷ cs) e = at (instr_taken S e c) (taken S before e c) (λ f. steps-instrs cs f)
    where
      at : (i : Option Instr) (o : Option Explored) → ((f : Explored) → map (λ (step : Choice × Instr). step.1) (steps_from S before cs f) ≡ instrs_from S before cs f)
          → map (λ (step : Choice × Instr). step.1) (and_then_step c i (steps_from S before cs) o) ≡ and_then_told i (instrs_from S before cs) o
      at (Some i) (Some f) rest = ap (λ (is : List Instr). i ∷ is) (rest f)
      at (Some i) None rest = refl
      at None (Some f) rest = refl
      at None None rest = refl

  pub steps_give : (cs : List Choice) → map (λ (step : Choice × Instr). step.1) (steps_of S before cs) ≡ instrs_of S before cs
  steps_give cs = steps-instrs cs (start S)

  -- there are no more of them than choices
  instrs-short : (cs : List Choice) (e : Explored) → length (instrs_from S before cs e) ≤ length cs
  instrs-short [] e = omega arith
  instrs-short (c ∷ cs) e = at (instr_taken S e c) (taken S before e c) (λ f. instrs-short cs f)
    where
      at : (i : Option Instr) (o : Option Explored) → ((f : Explored) → length (instrs_from S before cs f) ≤ length cs)
          → length (and_then_told i (instrs_from S before cs) o) ≤ suc (length cs)
      at (Some i) (Some f) rest = let short = rest f in omega (arith, short)
      at (Some i) None rest = omega arith
      at None (Some f) rest = omega arith
      at None None rest = omega arith

  pub instrs_short : (cs : List Choice) → length (instrs_of S before cs) ≤ length cs
  instrs_short cs = instrs-short cs (start S)

  pub steps_short : (cs : List Choice) → length (steps_of S before cs) ≤ length cs
  steps_short cs =
      let long = length-map (steps_of S before cs) (λ (step : Choice × Instr). step.1) in
      let same = ap length (steps_give cs) in
      let short = instrs_short cs in
      omega (arith, long, same, short)

-- They name works and queues of the scenario.

module _ (S : ScenarioContents) where
  apart-declared : (i : Instr) → Declared S i → AllByRecursion (Declared S) (apart i)
  apart-declared (instr.CancelSync w) is = (is, (is, (is, tt)))
  apart-declared i is = (is, tt)

  lines-declared : (is : List Instr) → AllByRecursion (Declared S) is → AllByRecursion (Declared S) (flat_map apart is)
  lines-declared [] all = tt
  lines-declared (i ∷ is) all = all_append (Declared S) (apart i) (flat_map apart is) (apart-declared i all.0) (lines-declared is all.1)

  one-of : (is : List Instr) (n : ℕ) (i : Instr) → AllByRecursion (Declared S) is → slice_get is n ≡ Some i → Declared S i
  one-of [] n i all there = absurd (none_some i there)
  one-of (j ∷ is) zero i all there = subst (Declared S) (cc) all.0
  one-of (j ∷ is) (suc n) i all there = one-of is n i all.1 there

  going-declared : (i : Instr) → goes_on i ≡ true → Declared S i
  going-declared (instr.Until time) goes = refl
  going-declared (instr.Wait flush) goes = refl
  going-declared instr.Quiet goes = refl
  going-declared i goes = cc

  both-parts : (is js : List Instr) → AllByRecursion (Declared S) (is ++ js) → AllByRecursion (Declared S) is × AllByRecursion (Declared S) js
  both-parts [] js all = (tt, all)
  both-parts (i ∷ is) js all = let rest = both-parts is js all.1 in ((all.0, rest.0), rest.1)

  stands-declared : (line : ActorLine) → AllByRecursion (Declared S) (replicate line.times line.instr)
      → AllByRecursion (Declared S) (replicate (stands line).times (stands line).instr)
  stands-declared line all = by (goes_on line.instr) refl
    where
      by : (b : Bool) → goes_on line.instr ≡ b → AllByRecursion (Declared S) (replicate (cond b (record line { times = 1 }) line).times (cond b (record line { times = 1 }) line).instr)
      by true goes = (going-declared line.instr goes, tt)
      by false goes = all

  stood-declared : (lines : List ActorLine) → AllByRecursion (Declared S) (expand_lines lines) → AllByRecursion (Declared S) (expand_lines (map stands lines))
  stood-declared [] all = tt
  stood-declared (line ∷ lines) all =
      let parts = both-parts (replicate line.times line.instr) (expand_lines lines) all in
      all_append (Declared S) (replicate (stands line).times (stands line).instr) (expand_lines (map stands lines)) (stands-declared line parts.0) (stood-declared lines parts.1)

  actor-lines : (actors : List ActorContents) (actor : ℕ) → AllByRecursion (λ (a : ActorContents). AllByRecursion (Declared S) (expand a)) actors
      → AllByRecursion (Declared S) (lines_of (slice_index_or actors actor no_actor))
  actor-lines [] actor all = tt
  actor-lines (a ∷ actors) zero all = lines-declared (expand_lines (map stands a.lines)) (stood-declared a.lines all.0)
  actor-lines (a ∷ actors) (suc actor) all = actor-lines actors actor all.1

  own-declared : (before : List Before) (e : Explored) (i : Instr) → is_own S before e i ≡ true → Declared S i
  own-declared before e instr.Fire is = refl
  own-declared before e (instr.Step pool) is = refl
  own-declared before e instr.Tick is = refl
  own-declared before e _ is = cc

  module _ (before : List Before) (valid : IsValid S) where
    taken-declared : (e f : Explored) (c : Choice) (i : Instr) → instr_taken S e c ≡ Some i → taken S before e c ≡ Some f → Declared S i
    taken-declared e f (Line actor) i is t =
        one-of (lines_at S actor) (slice_index_or e.at actor 0) i (actor-lines S.actors actor (valid_declared S valid)) is
    taken-declared e f (Own j) i is t = subst (Declared S) (cc) (own-declared before e j (own-taken S e f before j t).0)

    declared-from : (cs : List Choice) (e : Explored) → AllByRecursion (Declared S) (instrs_from S before cs e)
    declared-from [] e = tt
    declared-from (c ∷ cs) e = at (instr_taken S e c) (taken S before e c) (λ i f is t. taken-declared e f c i is t) (λ f. declared-from cs f)
      where
        at : (i : Option Instr) (o : Option Explored) → ((j : Instr) (f : Explored) → i ≡ Some j → o ≡ Some f → Declared S j)
            → ((f : Explored) → AllByRecursion (Declared S) (instrs_from S before cs f)) → AllByRecursion (Declared S) (and_then_told i (instrs_from S before cs) o)
        at (Some i) (Some f) one rest = (one i f refl refl, rest f)
        at (Some i) None one rest = tt
        at None (Some f) one rest = tt
        at None None one rest = tt

    pub order_declared : (cs : List Choice) → All (λ i. IsTrue (names_declared S i)) (instrs_of S before cs)
    order_declared cs = All-from_recursion (λ i. IsTrue (names_declared S i)) (instrs_of S before cs) (declared-from cs (start S))

    -- so the scenario whose one actor gives them is valid
    pub found_valid : (cs : List Choice) → length cs ≤ MAX_LINES → IsValid (found S (instrs_of S before cs))
    found_valid cs few = acted_valid S (codes "found") (instrs_of S before cs) valid (order_declared cs) (let short = instrs_short S before cs in omega (arith, few, short))

-- How many notes there are.

module _ (S : ScenarioContents) where
  reply-few : (now : ℕ) (i : Instr) (reply : Reply) → length (reply_notes S now i reply) ≤ 1
  reply-few now i reply = at (is_silent reply)
    where
      note : List ℕ
      note = codes "  " ++ decimal now ++ codes " " ++ reply_words S i reply

      at : (b : Bool) → length (cond b [] (note ∷ [])) ≤ 1
      at true = omega arith
      at false = omega arith

  steps-few : (n : ℕ) (s : State) (steps : List (Choice × Instr)) → length (step_notes S n s steps) ≤ 2 * length steps
  steps-few n s [] = omega arith
  steps-few n s (step ∷ steps) =
      let one = notes_of_step S (n + 1) s step in
      let more = step_notes S (n + 1) (table S s step.1).0 steps in
      let both : length (one ++ more) ≡ length one + length more = length-append one more in
      let few : length one ≤ 2 = (let reply = reply-few (table S s step.1).0.time step.1 (table S s step.1).1 in omega (arith, reply)) in
      let rest = steps-few (n + 1) (table S s step.1).0 steps in
      omega (arith, both, few, rest)

  rest-few : (actor : ℕ) (rest : Rest) → length (rest_notes_of S actor rest) ≤ 1
  rest-few actor Ended = omega arith
  rest-few actor (Waits flush) = omega arith
  rest-few actor (IsBefore i) = omega arith

  rests-few : (actor : ℕ) (rests : List Rest) → length (rest_notes S actor rests) ≤ length rests
  rests-few actor [] = omega arith
  rests-few actor (rest ∷ others) =
      let one = rest_notes_of S actor rest in
      let more = rest_notes S (actor + 1) others in
      let both : length (one ++ more) ≡ length one + length more = length-append one more in
      let few = rest-few actor rest in
      let later = rests-few (actor + 1) others in
      omega (arith, both, few, later)

  pub notes_few : (question : Question) (steps : List (Choice × Instr)) (rests : List Rest)
      → length (found_notes S question steps rests) ≤ 1 + 2 * length steps + length rests
  notes_few question steps rests =
      let first = step_notes S 0 (states.start S) steps in
      let last = rest_notes S 0 rests in
      let both : length (first ++ last) ≡ length first + length last = length-append first last in
      let few = steps-few 0 (states.start S) steps in
      let later = rests-few 0 rests in
      omega (arith, both, few, later)

  pub rests_count : (e : Explored) (n : ℕ) → length (rests_below S e n) ≡ n
  rests_count e zero = refl
  rests_count e (suc n) = length-append (rests_below S e n) _ ∙ (let before : length (rests_below S e n) ≡ n = rests_count e n in omega (arith, before))

-- Running the instructions comes to the same with other actors.

module _ (S : ScenarioContents) (is : List Instr) where
  same-state : (i : Instr) (s : State) → (table (found S is) s i).0 ≡ (table S s i).0
  unfolding table
  same-state i s = refl

  same-after : (s : State) (js : List Instr) → after_all (found S is) s js ≡ after_all S s js
  same-after s [] = refl
  same-after s (j ∷ js) = ap (λ (t : State). after_all (found S is) t js) (same-state j s) ∙ same-after (table S s j).0 js

  pub same_run : run (found S is) is ≡ run S is
  same_run = same-after _ is

-- What is made of an order that was told.

module _ (S : ScenarioContents) (before : List Before) (cs : List Choice) (valid : IsValid S) (few : length cs ≤ MAX_LINES) where
  -- the scenario with its one actor is the one that was made
  same-found : (steps given : List (Choice × Instr)) (scenario made : ScenarioContents) → steps ≡ steps_of S before cs → scenario ≡ S → given ≡ steps
      → made ≡ found scenario (map (λ (step : Choice × Instr). step.1) given) → made ≡ found S (instrs_of S before cs)
  same-found steps given scenario made told same is made_of =
      made_of ∙ ap (λ (T : ScenarioContents). found T (map (λ (step : Choice × Instr). step.1) given)) same
      ∙ ap (λ (xs : List (Choice × Instr)). found S (map (λ (step : Choice × Instr). step.1) xs)) (is ∙ told)
      ∙ ap (λ (is : List Instr). found S is) (steps_give S before cs)

  -- it is valid, and its contents are a scenario's
  made-scenario : (made : ScenarioContents) (listed : List ℕ) → made ≡ found S (instrs_of S before cs) → (IsValid made → Spells listed made) → IsScenario (found S (instrs_of S before cs))
  made-scenario made listed same spells =
      subst IsScenario same (spells (subst IsValid (sym same) (found_valid S before valid cs few))).is_text.scenario

  pub found_names : (steps given : List (Choice × Instr)) (scenario made : ScenarioContents) (listed : List ℕ) (actors : List ActorContents)
      → steps ≡ steps_of S before cs → scenario ≡ S → given ≡ steps → made ≡ found scenario (map (λ (step : Choice × Instr). step.1) given)
      → (IsValid made → Spells listed made) → actors ≡ S.actors → AllByRecursion HasName actors → HasNames S
  found_names steps given scenario made listed actors told same is made_of spells those names =
      let contents = made-scenario made listed (same-found steps given scenario made told same is made_of) spells in
      record { works = contents.works; queues = contents.queues; actors = subst (AllByRecursion HasName) those names }

  pub shown : (question : Question) (e : Explored) (steps given : List (Choice × Instr)) (stand : List Rest) (scenario made : ScenarioContents) (listed notes text : List ℕ)
      → reached S before cs ≡ Some e → steps ≡ steps_of S before cs → stand ≡ rests S e → scenario ≡ S → given ≡ steps
      → made ≡ found scenario (map (λ (step : Choice × Instr). step.1) given) → listed ≡ listing made → (IsValid made → Spells listed made)
      → notes ≡ note_lines (found_notes S question steps stand) → AreNotes (found_notes S question steps stand) → text ≡ listed ++ notes
      → OrdersAreRuns → NotesMayFollow → Shows S question before cs text
  unfolding found_text OrdersAreRuns NotesMayFollow
  shown question e steps given stand scenario made listed notes text comes told stood same is made_of listed_is spells noted are whole runs follow =
      let is_found = same-found steps given scenario made told same is made_of in
      let T = found S (instrs_of S before cs) in
      let lines = found_notes S question (steps_of S before cs) (rests S e) in
      let contents : IsScenario T = made-scenario made listed is_found spells in
      let those : found_notes S question steps stand ≡ lines =
      ap (λ (xs : List (Choice × Instr)). found_notes S question xs stand) told ∙ ap (λ (xs : List Rest). found_notes S question (steps_of S before cs) xs) stood in
      let text_is : text ≡ listing T ++ note_lines lines =
      whole ∙ ap (λ (front : List ℕ). front ++ notes) (listed_is ∙ ap listing is_found)
      ∙ ap (λ (back : List ℕ). listing T ++ back) (noted ∙ ap note_lines those) in
      let count : length lines ≤ 1 + 2 * length (steps_of S before cs) + length (rests S e) = notes_few S question (steps_of S before cs) (rests S e) in
      let many : length (steps_of S before cs) ≤ length cs = steps_short S before cs in
      let actors : length (rests S e) ≡ length S.actors = rests_count S e (length S.actors) in
      let most : length S.actors ≤ MAX_ACTORS = few_actors S valid in
      record {
        state = e;
        comes = comes;
        text_is = text_is;
        spells = subst (λ (x : List ℕ). Spells x T) (sym text_is)
            (follow T lines (found_valid S before valid cs few) contents (subst AreNotes those are) (omega (arith, count, many, actors, most, few)));
        runs = same_run S (instrs_of S before cs) ∙ sym (runs S before cs e comes);
      }
