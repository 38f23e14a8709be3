-- The same scenario with another actor: it is judged alike but for the actor, and prints the same.
use Rattle.std.proofs.Common.{◌≡◌, ℕ, zero, suc, ◌+◌, ◌<◌, ◌≤◌, ◌/◌, ◌%◌, ◌^◌, Bool, true, false, ◌&&◌, leb, List, [], ◌∷◌, ◌++◌, length, map, replicate, Option, Some, None, arith, refl, sym, ap, ◌∙◌, subst}
use Rattle.std.proofs.lemmas.Bool.Decides.{nat_tests}
use Rattle.std.specs.List.{AllByRecursion}
use Rattle.cmwq_types.specs.Contents.{ActorContents, ScenarioContents, WorkContents}
use Rattle.cmwq_types.specs.Faults.{IsValid, actor_fault, counts_fault, fault_unless, first_along, line_fault, numbers_fault, or_else, queue_fault, within, work_fault}
use Rattle.cmwq_types.specs.Values.{IsActor, IsLine, IsScenario}
use Rattle.cmwq_types.specs.declared.check.Fault.{Fault}
use Rattle.cmwq_types.specs.declared.check.Fault.TheVariants as fault
use Rattle.cmwq_types.specs.declared.instr.Instr.{Instr}
use Rattle.cmwq_types.specs.declared.limits.TheConstants.{MAX_ACTORS, MAX_LINES, MAX_QUEUES, MAX_TIMES, MAX_WORKS}
use Rattle.cmwq_types.specs.declared.scenario.Line.{Line}
use Rattle.cmwq_table.specs.Events.{events, events_from, reply_line, told}
use Rattle.cmwq_table.specs.State.{State}
use Rattle.cmwq_table.specs.Table.{table}
use Rattle.cmwq_settle.specs.Counting.{with_one_actor}
use Rattle.cmwq_settle.specs.Settled.{next_line, next_lines, rest_lines, settled_scenario, with_nexts}

-- Faults.

no_first : (a b : Option Fault) → or_else a b ≡ None → (a ≡ None) × (b ≡ None)
no_first (Some f) b e = cc
no_first None b e = (refl, e)

no_unless : (t : Bool) (f : Fault) → fault_unless t f ≡ None → t ≡ true
no_unless true f e = refl
no_unless false f e = cc

none_first : (a b : Option Fault) → a ≡ None → b ≡ None → or_else a b ≡ None
none_first a b p q = ap (λ (x : Option Fault). or_else x b) p ∙ q

both_of : (a b : Bool) → (a && b) ≡ true → (a ≡ true) × (b ≡ true)
both_of true b e = (refl, e)
both_of false b e = cc

unless_none : (t : Bool) (f : Fault) → t ≡ true → fault_unless t f ≡ None
unless_none t f e = ap (λ (b : Bool). fault_unless b f) e

-- of the lines of an actor the first fault is that of a line, whatever stands before it
abbrev line_faults : ScenarioContents → List Line → List Line → Option Fault
line_faults S before lines = first_along (λ before line. line_fault S line) before lines

-- lines without a fault, and behind them more of them
no_line_fault : (S : ScenarioContents) (before xs ys : List Line) → line_faults S before xs ≡ None → ((front : List Line) → line_faults S front ys ≡ None) → line_faults S before (xs ++ ys) ≡ None
no_line_fault S before [] ys first second = second before
no_line_fault S before (x ∷ xs) ys first second =
    let parts = no_first (line_fault S x) (line_faults S (before ++ x ∷ []) xs) first in
    none_first (line_fault S x) (line_faults S (before ++ x ∷ []) (xs ++ ys)) parts.0 (no_line_fault S (before ++ x ∷ []) xs ys parts.1 second)

-- Lines of `next` have no fault.

next-fine : (S : ScenarioContents) (n : ℕ) → 1 ≤ n → n ≤ MAX_TIMES → line_fault S (next_line n) ≡ None
next-fine S n some most = unless_none (within 1 MAX_TIMES n) fault.Range (grind (arith, nat_tests))

full-fine : (S : ScenarioContents) (k n : ℕ) → 1 ≤ n → n ≤ MAX_TIMES → (front : List Line) → line_faults S front (replicate k (next_line n)) ≡ None
full-fine S zero n some most front = refl
full-fine S (suc k) n some most front =
    none_first (line_fault S (next_line n)) (line_faults S (front ++ next_line n ∷ []) (replicate k (next_line n)))
    (next-fine S n some most) (full-fine S k n some most (front ++ next_line n ∷ []))

rest-fine : (S : ScenarioContents) (r : ℕ) → r ≤ MAX_TIMES → (front : List Line) → line_faults S front (rest_lines r) ≡ None
rest-fine S zero most front = refl
rest-fine S (suc r) most front = none_first (line_fault S (next_line (suc r))) None (next-fine S (suc r) (omega arith) most) refl

nexts-fine : (S : ScenarioContents) (n : ℕ) (front : List Line) → line_faults S front (next_lines n) ≡ None
nexts-fine S n front =
    no_line_fault S front (replicate (n / MAX_TIMES) (next_line MAX_TIMES)) (rest_lines (n % MAX_TIMES))
    (full-fine S (n / MAX_TIMES) MAX_TIMES (omega arith) (omega arith) front) (rest-fine S (n % MAX_TIMES) (omega arith))

-- The scenario with another actor. Its works are judged alike, and it prints the same.

module _ (S : ScenarioContents) (other : ActorContents) where
  same-lines : (before lines : List Line) → line_faults (with_one_actor S other) before lines ≡ line_faults S before lines
  same-lines before lines = refl

  same-works : first_along (work_fault (with_one_actor S other)) [] S.works ≡ first_along (work_fault S) [] S.works
  same-works = refl

  other-valid : IsValid S → actor_fault S [] other ≡ None → IsValid (with_one_actor S other)
  other-valid valid fine =
      let T = with_one_actor S other in
      let works_on = or_else (first_along (work_fault S) [] S.works) (first_along (actor_fault S) [] S.actors) in
      let queues_on = or_else (first_along queue_fault [] S.queues) works_on in
      let a = no_first (numbers_fault S) (or_else (counts_fault S) queues_on) valid in
      let b = no_first (counts_fault S) queues_on a.1 in
      let c = no_first (first_along queue_fault [] S.queues) works_on b.1 in
      let d = no_first (first_along (work_fault S) [] S.works) (first_along (actor_fault S) [] S.actors) c.1 in
      let counts = no_unless ((leb (length S.queues) MAX_QUEUES && leb (length S.works) MAX_WORKS) && leb (length S.actors) MAX_ACTORS) fault.TooMany b.0 in
      let few = both_of (leb (length S.queues) MAX_QUEUES && leb (length S.works) MAX_WORKS) (leb (length S.actors) MAX_ACTORS) counts in
      let counted : counts_fault T ≡ None = unless_none ((leb (length S.queues) MAX_QUEUES && leb (length S.works) MAX_WORKS) && true) fault.TooMany (and_true (leb (length S.queues) MAX_QUEUES && leb (length S.works) MAX_WORKS) few.0) in
      let last : first_along (actor_fault T) [] (other ∷ []) ≡ None = none_first (actor_fault T [] other) None fine refl in
      none_first (numbers_fault T) (or_else (counts_fault T) (or_else (first_along queue_fault [] S.queues) (or_else (first_along (work_fault T) [] S.works) (first_along (actor_fault T) [] (other ∷ []))))) a.0
      (none_first (counts_fault T) (or_else (first_along queue_fault [] S.queues) (or_else (first_along (work_fault T) [] S.works) (first_along (actor_fault T) [] (other ∷ [])))) counted
      (none_first (first_along queue_fault [] S.queues) (or_else (first_along (work_fault T) [] S.works) (first_along (actor_fault T) [] (other ∷ []))) c.0
      (none_first (first_along (work_fault T) [] S.works) (first_along (actor_fault T) [] (other ∷ [])) (same-works ∙ d.0) last)))
    where
      and_true : (t : Bool) → t ≡ true → (t && true) ≡ true
      and_true true e = refl
      and_true false e = e

  other-scenario : IsScenario S → IsActor other → IsScenario (with_one_actor S other)
  other-scenario is actor = record {
    cpus = is.cpus;
    workers = is.workers;
    steps = is.steps;
    flushes = is.flushes;
    queues = is.queues;
    works = is.works;
    actors = (actor, tt);
  }

  -- what the scenario prints
  same-told : (i : Instr) (s : State) → told (with_one_actor S other) i (table (with_one_actor S other) s i) ≡ told S i (table S s i)
  unfolding reply_line table
  same-told i s = refl

  same-state : (i : Instr) (s : State) → (table (with_one_actor S other) s i).0 ≡ (table S s i).0
  unfolding table
  same-state i s = refl

  same-events_from : (s : State) (is : List Instr) → events_from (with_one_actor S other) s is ≡ events_from S s is
  same-events_from s [] = refl
  same-events_from s (i ∷ is) =
      ap (λ (line : List ℕ). line ++ events_from (with_one_actor S other) (table (with_one_actor S other) s i).0 is) (same-told i s)
      ∙ ap (λ (t : State). told S i (table S s i) ++ events_from (with_one_actor S other) t is) (same-state i s)
      ∙ ap (λ (more : List ℕ). told S i (table S s i) ++ more) (same-events_from (table S s i).0 is)

pub same-events : (S : ScenarioContents) (other : ActorContents) (is : List Instr) → events (with_one_actor S other) is ≡ events S is
same-events S other is = same-events_from S other _ is

-- The scenario whose one actor has lines of `next` more.

module _ (S : ScenarioContents) (actor : ActorContents) (n : ℕ) (alone : S.actors ≡ actor ∷ []) where
  pub settled-is : settled_scenario S n ≡ with_one_actor S (with_nexts n actor)
  settled-is = ap (λ (actors : List ActorContents). record S { actors = map (with_nexts n) actors }) alone

  its-fault : IsValid S → actor_fault S [] actor ≡ None
  its-fault valid =
      let a = no_first (numbers_fault S) _ valid in
      let b = no_first (counts_fault S) _ a.1 in
      let c = no_first (first_along queue_fault [] S.queues) _ b.1 in
      let d = no_first (first_along (work_fault S) [] S.works) _ c.1 in
      let here = subst (λ (actors : List ActorContents). first_along (actor_fault S) [] actors ≡ None) alone d.1 in
      (no_first (actor_fault S [] actor) None here).0

  longer-fine : IsValid S → length (with_nexts n actor).lines ≤ MAX_LINES → actor_fault S [] (with_nexts n actor) ≡ None
  longer-fine valid few =
      let parts = no_first (fault_unless (leb (length actor.lines) MAX_LINES) fault.TooMany) (line_faults S [] actor.lines) (its-fault valid) in
      none_first (fault_unless (leb (length (with_nexts n actor).lines) MAX_LINES) fault.TooMany) (line_faults S [] (with_nexts n actor).lines)
      (unless_none (leb (length (with_nexts n actor).lines) MAX_LINES) fault.TooMany (grind (arith, nat_tests)))
      (no_line_fault S [] actor.lines (next_lines n) parts.1 (nexts-fine S n))

  pub settled-valid : IsValid S → length (with_nexts n actor).lines ≤ MAX_LINES → IsValid (with_one_actor S (with_nexts n actor))
  settled-valid valid few = other-valid S (with_nexts n actor) valid (longer-fine valid few)

  -- Each number in it fits its type.

  pub settled-scenario : IsScenario S → IsScenario (with_one_actor S (with_nexts n actor))
  settled-scenario is =
      let one = subst (λ (actors : List ActorContents). AllByRecursion IsActor actors) alone is.actors in
      other-scenario S (with_nexts n actor) is (record { name = one.0.name; lines = all_then actor.lines (next_lines n) one.0.lines (nexts-are n) })
    where
      all_then : (xs ys : List Line) → AllByRecursion IsLine xs → AllByRecursion IsLine ys → AllByRecursion IsLine (xs ++ ys)
      all_then [] ys first second = second
      all_then (x ∷ xs) ys first second = (first.0, all_then xs ys first.1 second)

      all_same : (k : ℕ) (line : Line) → IsLine line → AllByRecursion IsLine (replicate k line)
      all_same zero line here = tt
      all_same (suc k) line here = (here, all_same k line here)

      rest_is : (r : ℕ) → r < 2 ^ 32 → AllByRecursion IsLine (rest_lines r)
      rest_is zero fits = tt
      rest_is (suc r) fits = (record { instr = tt; times = fits }, tt)

      nexts-are : (m : ℕ) → AllByRecursion IsLine (next_lines m)
      nexts-are m =
          all_then (replicate (m / MAX_TIMES) (next_line MAX_TIMES)) (rest_lines (m % MAX_TIMES))
          (all_same (m / MAX_TIMES) (next_line MAX_TIMES) (record { instr = tt; times = omega arith })) (rest_is (m % MAX_TIMES) (omega arith))
