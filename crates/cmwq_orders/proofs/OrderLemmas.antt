-- What orders come to.
use Rattle.std.proofs.Common.{◌≡◌, ℕ, zero, suc, ◌<◌, ◌≤◌, Bool, true, false, true≢false, not, ◌&&◌, ◌||◌, ◌⊎◌, inl, inr, List, [], ◌∷◌, length, Option, Some, None, arith, refl, sym, ap, ◌∙◌, subst, eq-eqb}
use Rattle.std.proofs.lemmas.Bool.{and_parts, le-ltb}
use Rattle.std.specs.List.{list_all, slice_get}
use Rattle.std.specs.Prelude.{Contains, if◌then◌else◌, is_some, slice_index_or, ◌==◌}
use Rattle.cmwq_types.specs.Contents.{ActorContents, ScenarioContents}
use Rattle.cmwq_types.specs.Scenario.{pool_count}
use Rattle.cmwq_types.specs.declared.instr.Instr.{Instr}
use Rattle.cmwq_types.specs.declared.instr.Instr.TheVariants as instr
use Rattle.cmwq_table.specs.State.{State}
use Rattle.cmwq_table.specs.Table.{after_all, table}
use Rattle.cmwq_orders.specs.Laws.{BeginsBehindOthers, ClosedListsHaveAll, OrdersAreRuns, StuckStatesHaveNoChoice, WaitsForItsFlush}
use Rattle.cmwq_orders.specs.Orders.{Explored, and_then, any_below, and_then_told, cannot_come, carried, comes, has_ended, instr_taken, instrs_from, is_own, is_waiting, lines_of, may_begin, may_go, moved, next_line, no_actor, reached_from, start, taken, taken_next, went_on}
use Rattle.cmwq_orders.specs.Questions.{can_go_on, can_move, can_take, have_ended, is_spent}
use Rattle.cmwq_orders.specs.declared.choice.Before.{Before}
use Rattle.cmwq_orders.specs.declared.choice.Choice.{Choice}
use Rattle.cmwq_orders.specs.declared.choice.Choice.TheVariants.{Line, Own}

pub some_same : {A : Type 0} (x y : A) → Some x ≡ Some y → x ≡ y
some_same x y h = cc

pub none_some : {A : Type 0} (x : A) → None ≡ Some x → ⊥
none_some x h = cc

-- an option that is none, or some
pub none_or_some : {A : Type 0} (o : Option A) → (o ≡ None) ⊎ ((x : A) × (o ≡ Some x))
none_or_some (Some x) = inr (x, refl)
none_or_some None = inl refl

-- Closed lists.

module _ (S : ScenarioContents) (before : List Before) where
  step : (cs : List Choice) (f : Explored) (P : Explored → Type 0) → ((g : Explored) → P g → reached_from S before cs g ≡ Some f → P f)
      → (o : Option Explored) → ((g : Explored) → o ≡ Some g → P g) → and_then (reached_from S before cs) o ≡ Some f → P f
  step cs f P go (Some g) leads r = go g (leads g refl) r
  step cs f P go None leads r = absurd (none_some f r)

  -- what holds of one state, and stays with each choice, holds of all to which choices lead from it
  pub kept_along : (P : Explored → Type 0) → ((e g : Explored) (c : Choice) → P e → taken S before e c ≡ Some g → P g)
      → (cs : List Choice) (e f : Explored) → P e → reached_from S before cs e ≡ Some f → P f
  kept_along P stays [] e f p r = subst P (some_same e f r) p
  kept_along P stays (c ∷ cs) e f p r =
      step cs f P (λ g q s. kept_along P stays cs g f q s) (taken S before e c) (λ g t. stays e g c p t) r

pub closed_lists_have_all : ClosedListsHaveAll
unfolding ClosedListsHaveAll
closed_lists_have_all S before seen closed has cs e r =
    kept_along S before (Contains seen) (λ d g c p t. closed d g c p t) cs (start S) e has r

-- Choices that can be taken.

pub if-some : {A : Type 0} (b : Bool) (o : Option A) (x : A) → (if b then o else None) ≡ Some x → (b ≡ true) × (o ≡ Some x)
if-some true o x h = (refl, h)
if-some false o x h = absurd (none_some x h)

pub unless-some : {A : Type 0} (b : Bool) (y x : A) → (if b then None else Some y) ≡ Some x → y ≡ x
unless-some true y x h = absurd (none_some x h)
unless-some false y x h = some_same y x h

module _ (S : ScenarioContents) (e f : Explored) where
  -- the choice is the instruction, which the table carries out
  abbrev pub Runs : Option Instr → Type 0
  Runs o = (i : Instr) × (o ≡ Some i) × ((table S e.machine i).0 ≡ f.machine)

  next-runs : (actor : ℕ) (o : Option Instr) → taken_next S e actor o ≡ Some f → Runs o
  next-runs actor (Some i) t =
      let now = if-some (comes S e.machine i) (carried e actor (table S e.machine i)) f t in
      (i, refl, ap (λ (g : Explored). g.machine) (unless-some (cannot_come (table S e.machine i).1) (went_on e actor (table S e.machine i)) f now.1))
  next-runs actor None t = absurd (none_some f t)

  module _ (before : List Before) where
    -- a line that is taken: the actor may go, and it has that line
    pub line-taken : (actor : ℕ) → taken S before e (Line actor) ≡ Some f → (may_go S before e actor ≡ true) × (taken_next S e actor (next_line S e actor) ≡ Some f)
    unfolding taken
    line-taken actor t = if-some (may_go S before e actor) (taken_next S e actor (next_line S e actor)) f t

    pub own-taken : (i : Instr) → taken S before e (Own i) ≡ Some f → (is_own S before e i ≡ true) × (moved e (table S e.machine i) ≡ Some f)
    unfolding taken
    own-taken i t = if-some (is_own S before e i) (moved e (table S e.machine i)) f t

    pub taken-runs : (c : Choice) → taken S before e c ≡ Some f → Runs (instr_taken S e c)
    taken-runs (Line actor) t = next-runs actor (next_line S e actor) (line-taken actor t).1
    taken-runs (Own i) t =
        (i, refl, ap (λ (g : Explored). g.machine) (unless-some (cannot_come (table S e.machine i).1) (record e { machine = (table S e.machine i).0 }) f (own-taken i t).1))

-- Runs.

module _ (S : ScenarioContents) (before : List Before) where
  run-step : (c : Choice) (cs : List Choice) (e f : Explored)
      → ((g : Explored) → reached_from S before cs g ≡ Some f → f.machine ≡ after_all S g.machine (instrs_from S before cs g))
      → (i : Option Instr) (o : Option Explored) → ((g : Explored) → o ≡ Some g → Runs S e g i) → and_then (reached_from S before cs) o ≡ Some f
      → f.machine ≡ after_all S e.machine (and_then_told i (instrs_from S before cs) o)
  run-step c cs e f go (Some i) (Some g) runs r =
      let one = runs g refl in
      let same : (table S e.machine i).0 ≡ g.machine = subst (λ (j : Instr). (table S e.machine j).0 ≡ g.machine) (sym (some_same i one.0 one.1)) one.2 in
      go g r ∙ ap (λ (s : State). after_all S s (instrs_from S before cs g)) (sym same)
  run-step c cs e f go (Some i) None runs r = absurd (none_some f r)
  run-step c cs e f go None (Some g) runs r = absurd (none_some (runs g refl).0 (runs g refl).1)
  run-step c cs e f go None None runs r = absurd (none_some f r)

  pub runs-from : (cs : List Choice) (e f : Explored) → reached_from S before cs e ≡ Some f → f.machine ≡ after_all S e.machine (instrs_from S before cs e)
  runs-from [] e f r = ap (λ (g : Explored). g.machine) (sym (some_same e f r))
  runs-from (c ∷ cs) e f r =
      run-step c cs e f (λ g s. runs-from cs g f s) (instr_taken S e c) (taken S before e c) (λ g t. taken-runs S e g before c t) r

pub orders_are_runs : OrdersAreRuns
unfolding OrdersAreRuns
orders_are_runs S before cs e r = runs-from S before cs (start S) e r

-- Who may go.

not-true : (b : Bool) → not b ≡ true → b ≡ false
not-true true h = absurd (true≢false (sym h))
not-true false h = refl

pub waits_for_its_flush : WaitsForItsFlush
unfolding WaitsForItsFlush
waits_for_its_flush S before e f actor t =
    not-true (is_waiting S e actor) (and_parts (may_begin S before e actor) (not (is_waiting S e actor)) (line-taken S e f before actor t).0).1

or-true : (a b : Bool) → (not a || b) ≡ true → a ≡ true → b ≡ true
or-true true b h e = h
or-true false b h e = absurd (true≢false (sym e))

-- what each passes, one of them passes
each-passes : (test : Before → Bool) (ps : List Before) (k : ℕ) (p : Before) → list_all test ps ≡ true → k < length ps → slice_index_or ps k p ≡ p → test p ≡ true
each-passes test [] k p all in_range is = absurd (omega (arith, in_range))
each-passes test (q ∷ qs) zero p all in_range is = subst (λ (x : Before). test x ≡ true) is (and_parts (test q) (list_all test qs) all).0
each-passes test (q ∷ qs) (suc k) p all in_range is = each-passes test qs k p (and_parts (test q) (list_all test qs) all).1 (omega (arith, in_range)) is

pub begins_behind_others : BeginsBehindOthers
unfolding BeginsBehindOthers
begins_behind_others S before e f p has t =
    let all : may_begin S before e p.then ≡ true = (and_parts (may_begin S before e p.then) (not (is_waiting S e p.then)) (line-taken S e f before p.then t).0).0 in
    or-true (p.then == p.then) (has_ended S e p.first)
    (each-passes (λ (q : Before). not (q.then == p.then) || has_ended S e q.first) before has.0 p all has.1 has.2)
    (eq-eqb p.then p.then refl)

-- Stuck states.

not-some : {A : Type 0} (o : Option A) → is_some o ≡ false → o ≡ None
not-some (Some x) h = absurd (true≢false h)
not-some None h = refl

or-false : (a b : Bool) → (a || b) ≡ false → (a ≡ false) × (b ≡ false)
or-false true b h = absurd (true≢false h)
or-false false b h = (refl, h)

-- where none below n passes, one below n doesn't pass
none-passes : (test : ℕ → Bool) (n k : ℕ) → any_below test n ≡ false → k < n → test k ≡ false
none-passes test zero k none below = absurd (omega (arith, below))
none-passes test (suc n) k none below =
    let parts = or-false (any_below test n) (test n) none in
    elim (cases k n (omega (arith, below))) [
      | inl less ↦ none-passes test n k parts.0 less
      | inr same ↦ subst (λ (j : ℕ). test j ≡ false) (sym same) parts.1
    ]
  where
    cases : (a b : ℕ) → a ≤ b → (a < b) ⊎ (a ≡ b)
    cases zero zero le = inr refl
    cases zero (suc b) le = inl (omega arith)
    cases (suc a) zero le = absurd (omega (arith, le))
    cases (suc a) (suc b) le = elim (cases a b (omega (arith, le))) [
      | inl lower ↦ inl (omega (arith, lower))
      | inr same ↦ inr (ap suc same)
    ]

below-or-past : (a b : ℕ) → (a < b) ⊎ (b ≤ a)
below-or-past a zero = inr (omega arith)
below-or-past zero (suc b) = inl (omega arith)
below-or-past (suc a) (suc b) = elim (below-or-past a b) [
  | inl less ↦ inl (omega (arith, less))
  | inr more ↦ inr (omega (arith, more))
]

-- an actor that the scenario doesn't have has no line
past-index : {A : Type 0} (xs : List A) (i : ℕ) (d : A) → length xs ≤ i → slice_index_or xs i d ≡ d
past-index [] i d h = refl
past-index (x ∷ xs) zero d h = absurd (omega (arith, h))
past-index (x ∷ xs) (suc i) d h = past-index xs i d (omega (arith, h))

no-line : (S : ScenarioContents) (e : Explored) (actor : ℕ) → length S.actors ≤ actor → next_line S e actor ≡ None
no-line S e actor past =
    ap (λ (a : ActorContents). slice_get (lines_of a) (slice_index_or e.at actor 0)) (past-index S.actors actor no_actor past)

module _ (S : ScenarioContents) (before : List Before) (e : Explored) where
  unless : (c : Choice) → ((f : Explored) → taken S before e c ≡ Some f → ⊥) → taken S before e c ≡ None
  unless c never = elim (none_or_some (taken S before e c)) [
    | inl none ↦ none
    | inr some ↦ absurd (never some.0 some.1)
  ]

  -- an actor that the scenario doesn't have, and what the machine doesn't do by itself, can't be taken
  pub line-past : (actor : ℕ) → length S.actors ≤ actor → taken S before e (Line actor) ≡ None
  line-past actor past =
      unless (Line actor) (λ f t. none_some f (sym (ap (taken_next S e actor) (no-line S e actor past)) ∙ (line-taken S e f before actor t).1))

  pub own-not : (i : Instr) → is_own S before e i ≡ false → taken S before e (Own i) ≡ None
  own-not i not = unless (Own i) (λ f t. true≢false (sym (own-taken S e f before i t).0 ∙ not))

  pub step-past : (pool : ℕ) → pool_count S ≤ pool → taken S before e (Own (instr.Step pool)) ≡ None
  step-past pool past = own-not (instr.Step pool) (le-ltb pool (pool_count S) past)

  -- Each line of an actor that there is, a fire, each step of a pool that there is, and a tick: all other choices can't be taken.
  pub each_choice : (P : Choice → Type 0) → ((actor : ℕ) → actor < length S.actors → P (Line actor)) → P (Own instr.Fire)
      → ((pool : ℕ) → pool < pool_count S → P (Own (instr.Step pool))) → P (Own instr.Tick) → ((c : Choice) → taken S before e c ≡ None → P c)
      → (c : Choice) → P c
  each_choice P lines fire steps tick others (Line actor) = elim (below-or-past actor (length S.actors)) [
    | inl below ↦ lines actor below
    | inr past ↦ others (Line actor) (line-past actor past)
  ]
  each_choice P lines fire steps tick others (Own instr.Fire) = fire
  each_choice P lines fire steps tick others (Own (instr.Step pool)) = elim (below-or-past pool (pool_count S)) [
    | inl below ↦ steps pool below
    | inr past ↦ others (Own (instr.Step pool)) (step-past pool past)
  ]
  each_choice P lines fire steps tick others (Own instr.Tick) = tick
  each_choice P lines fire steps tick others (Own i) = others (Own i) (own-not i refl)

pub stuck_states_have_no_choice : StuckStatesHaveNoChoice
unfolding StuckStatesHaveNoChoice
stuck_states_have_no_choice S before e stuck =
    let ended = (and_parts (not (is_spent S e)) (not (have_ended S e) && not (can_go_on S before e)) stuck).1 in
    let still : can_go_on S before e ≡ false = not-true (can_go_on S before e) (and_parts (not (have_ended S e)) (not (can_go_on S before e)) ended).1 in
    let lines = or-false (any_below (λ actor. can_take S before e (Line actor)) (length S.actors)) (can_move S before e) still in
    let fire = or-false (can_take S before e (Own instr.Fire)) (any_below (λ pool. can_take S before e (Own (instr.Step pool))) (pool_count S) || can_take S before e (Own instr.Tick)) lines.1 in
    let rest = or-false (any_below (λ pool. can_take S before e (Own (instr.Step pool))) (pool_count S)) (can_take S before e (Own instr.Tick)) fire.1 in
    each_choice S before e (λ c. taken S before e c ≡ None)
    (λ actor below. not-some (taken S before e (Line actor)) (none-passes (λ actor. can_take S before e (Line actor)) (length S.actors) actor lines.0 below))
    (not-some (taken S before e (Own instr.Fire)) fire.0)
    (λ pool below. not-some (taken S before e (Own (instr.Step pool))) (none-passes (λ pool. can_take S before e (Own (instr.Step pool))) (pool_count S) pool rest.0 below))
    (not-some (taken S before e (Own instr.Tick)) rest.1)
    (λ c none. none)
