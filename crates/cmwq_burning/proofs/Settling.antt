-- Nothing burns beyond its end while no pool has a move.
use Rattle.std.proofs.Common.{◌≡◌, ℕ, ◌+◌, ◌<◌, Bool, true, false, ◌&&◌, ◌||◌, cond, length, Option, Some, None, arith, refl, ap, sym, ◌∙◌}
use Rattle.std.proofs.lemmas.Bool.{and_parts, eqb-true}
use Rattle.std.proofs.lemmas.Bool.Decides.{nat_tests}
use Rattle.std.specs.Prelude.{is_none, is_some, ◌==◌}
use Rattle.cmwq_types.specs.Contents.{ScenarioContents}
use Rattle.cmwq_types.specs.First.{MatchFirst, by_least}
use Rattle.cmwq_types.specs.Scenario.{is_high, is_unbound, pool_count}
use Rattle.cmwq_types.specs.declared.moves.Move.{Move}
use Rattle.cmwq_types.specs.declared.moves.Move.TheVariants.{Advance, Wake}
use Rattle.cmwq_table.specs.Changes.{ready_in}
use Rattle.cmwq_table.specs.Counts.{burns, first_ready, first_runnable, first_slept, if_ready, is_runnable, is_some_work, or_else, ready_head, running_before, runs}
use Rattle.cmwq_table.specs.Moves.{as_move, first_moving, next_move, start_move}
use Rattle.cmwq_table.specs.State.{State, running_at}
use Rattle.cmwq_table.specs.declared.state.Running.{Running}
use Rattle.cmwq_table.proofs.Choosing.{moving-is_first, ready-is_first}

abbrev pub IsSettled : ScenarioContents → State → Type 0
IsSettled S s = first_moving S s ≡ None

still-if : (S : ScenarioContents) (s : State) (o : Option ℕ) → MatchFirst (by_least (λ pool. pool)) (λ pool. is_some (next_move S s pool)) (pool_count S) o
    → o ≡ None → (pool : ℕ) → pool < pool_count S → is_some (next_move S s pool) ≡ false
still-if S s (Some found) first is pool h = cc
still-if S s None none is pool h = none pool h

no-head : (head : Option ℕ) (other : Option Move) → is_some (or_else (as_move Advance head) other) ≡ false → head ≡ None
no-head (Some w) other e = cc
no-head None other e = refl

settled-head : (S : ScenarioContents) (s : State) (pool : ℕ) → IsSettled S s → pool < pool_count S → ready_head S s pool ≡ None
settled-head S s pool settled h =
    no-head (ready_head S s pool) (or_else (as_move Wake (first_slept S s pool)) (start_move S s pool)) (still-if S s (first_moving S s) (moving-is_first S s) settled pool h)

-- of an unbound pool, whose runnable works are all heads
none-first : (before : ℕ → ℕ → Bool) (test : ℕ → Bool) (n : ℕ) (o : Option ℕ) → MatchFirst before test n o → o ≡ None → (w : ℕ) → w < n → test w ≡ false
none-first before test n (Some m) first is w h = cc
none-first before test n None none is w h = none w h

not-ready : (r : Running) → is_runnable r.mode ≡ true → ready_in r.pool r ≡ false → 0 < r.left
not-ready r awake fails = grind (arith, nat_tests)

unbound-left : (S : ScenarioContents) (s : State) (w : ℕ) (r : Running) → w < length S.works → running_at s w ≡ Some r → first_ready S s r.pool ≡ None
    → is_runnable r.mode ≡ true → 0 < r.left
unbound-left S s w r h is none awake =
    not-ready r awake
    (ap (runs (ready_in r.pool)) (sym is) ∙ none-first (running_before s) (λ v. runs (ready_in r.pool) (running_at s v)) (length S.works) (first_ready S s r.pool) (ready-is_first S s r.pool) none w h)

-- of a bound pool, which has one head
head-is : (o : Option ℕ) (w : ℕ) → is_some_work o w ≡ true → o ≡ Some w
head-is (Some v) w e = ap Some (eqb-true v w e)
head-is None w e = cc

not-burned : (r : Running) (w : ℕ) → cond (runs (λ q. q.left == 0) (Some r)) (Some w) None ≡ None → 0 < r.left
not-burned r w e = some-left r.left (r.left == 0) refl e
  where
    some-left : (left : ℕ) (b : Bool) → (left == 0) ≡ b → cond b (Some w) None ≡ None → 0 < left
    some-left left true is e = cc
    some-left left false is e = grind (arith, nat_tests)

bound-left : (S : ScenarioContents) (s : State) (w : ℕ) (r : Running) → running_at s w ≡ Some r → if_ready s (first_runnable S s r.pool) ≡ None
    → is_some_work (first_runnable S s r.pool) w ≡ true → 0 < r.left
bound-left S s w r is none head =
    let found : if_ready s (first_runnable S s r.pool) ≡ if_ready s (Some w) = ap (if_ready s) (head-is (first_runnable S s r.pool) w head) in
    let burned : if_ready s (Some w) ≡ cond (runs (λ q. q.left == 0) (Some r)) (Some w) None = ap (λ (o : Option Running). cond (runs (λ q. q.left == 0) o) (Some w) None) is in
    not-burned r w (sym burned ∙ (sym found ∙ none))

left-if : (S : ScenarioContents) (s : State) (w : ℕ) (r : Running) (b : Bool) → w < length S.works → running_at s w ≡ Some r
    → cond b (first_ready S s r.pool) (if_ready s (first_runnable S s r.pool)) ≡ None
    → cond b (is_runnable r.mode) (is_some_work (first_runnable S s r.pool) w && (is_high r.pool || is_none (first_runnable S s (r.pool + 1)))) ≡ true → 0 < r.left
left-if S s w r true h is none burning = unbound-left S s w r h is none burning
left-if S s w r false h is none burning =
    bound-left S s w r is none (and_parts (is_some_work (first_runnable S s r.pool) w) (is_high r.pool || is_none (first_runnable S s (r.pool + 1))) burning).0

-- a work that burns while no pool has a move has something left to burn
pub burning-left : (S : ScenarioContents) (s : State) (w : ℕ) (r : Running) → IsSettled S s → w < length S.works → running_at s w ≡ Some r → r.pool < pool_count S
    → burns S s w (Some r) ≡ true → 0 < r.left
burning-left S s w r settled h is there burning = left-if S s w r (is_unbound S r.pool) h is (settled-head S s r.pool settled there) burning
