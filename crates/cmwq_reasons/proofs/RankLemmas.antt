-- A reason that is blamed ranks below the one that blames it.
use Rattle.std.proofs.Common.{◌≡◌, ◌⊎◌, ℕ, zero, suc, ◌+◌, ◌*◌, ◌<◌, ◌≤◌, Bool, true, false, cond, ◌&&◌, ◌||◌, List, [], ◌∷◌, ◌++◌, map, length, Option, Some, None, arith, refl, sym, ap, ◌∙◌, subst, inl, inr}
use Rattle.std.proofs.lemmas.Bool.{and_parts, cond-false, cond-true, eq-eqb, eqb-false, eqb-true, leb-false, lt-leb, or_right}
use Rattle.std.proofs.lemmas.Nat.{div-add-mod', mod-mul-add, mod_below}
use Rattle.std.specs.Prelude.{◌/◌, ◌%◌, ◌==◌, nat_lt}
use Rattle.cmwq_types.specs.Contents.{ScenarioContents}
use Rattle.cmwq_types.specs.Scenario.{queue_of}
use Rattle.cmwq_types.specs.declared.instr.WorkId.{WorkId}
use Rattle.cmwq_types.specs.declared.moves.Move.{Move}
use Rattle.cmwq_types.specs.declared.moves.Move.TheVariants.{Advance, Wake, Start, Defer, Rescue}
use Rattle.cmwq_types.specs.declared.reply.Mode.{Mode}
use Rattle.cmwq_types.specs.declared.reply.Mode.TheVariants.{Runnable, Asleep}
use Rattle.cmwq_types.specs.declared.reply.Place.{Place}
use Rattle.cmwq_types.specs.declared.reply.Place.TheVariants.{Timer, Inactive, Listed, Deferred}
use Rattle.cmwq_table.specs.declared.state.Pending.{Pending}
use Rattle.cmwq_table.specs.declared.state.Running.{Running}
use Rattle.cmwq_table.specs.State.{State, is_high, is_unbound, pending_at, running_at}
use Rattle.cmwq_table.specs.Counts.{first_ready, first_runnable, first_slept, if_ready, is_active, is_deferred, is_listed, is_runnable, may_start, or_else, pending_before, pends, running_before, runs}
use Rattle.cmwq_table.specs.Moves.{as_move, next_move, start_move}
use Rattle.cmwq_dump.specs.Order.{all_below, put_before, put_if}
use Rattle.cmwq_reasons.specs.declared.reason.Instance.{Instance}
use Rattle.cmwq_reasons.specs.declared.reason.Instance.TheVariants as instance
use Rattle.cmwq_reasons.specs.declared.reason.Reason.{Reason}
use Rattle.cmwq_reasons.specs.declared.reason.Reason.TheVariants as reason
use Rattle.cmwq_reasons.specs.declared.reason.Turn.{Turn}
use Rattle.cmwq_reasons.specs.declared.reason.Turn.TheVariants.{Starts, Defers, StartsOnRescuer}
use Rattle.cmwq_reasons.specs.Laws.{BlamesAtMostFive, InAnyState, IsAmong, IsChainOfBlame, IsHead, RanksCausesBelow, moves_next, rank}
use Rattle.cmwq_reasons.specs.Reasons.{burns_unless, causes, counted_works, deferred_holders, free_or_after, holders, is_same, listed_holders, moved_by, mover, next_or_after, other_instance, pending_half, pending_holders, pending_works, reason_by_move, reason_if_pending, reason_if_running, reason_in_mode, reason_in_place, reason_of, reason_of_head, reason_of_runnable, reason_of_running, running_half, running_holders, running_works, work_above, work_before, works_on_workers}
use Rattle.cmwq_table.proofs.Choosing.{runnable-is_first}
use Rattle.cmwq_reasons.proofs.MoverLemmas.{is_runnable_in, same-refl, some-first}
use Rattle.cmwq_reasons.proofs.NextLemmas.{moved-says, runs-some}
use Rattle.cmwq_reasons.proofs.PendingRows.{PlaceRow, place-row}
use Rattle.cmwq_reasons.proofs.RunningRows.{RunRow, head-reason, run-row, runnable-is}

-- Who is among a list.

pub among-append : {A : Type 0} (x : A) (xs ys : List A) → IsAmong x (xs ++ ys) → IsAmong x xs ⊎ IsAmong x ys
among-append x [] ys there = inr there
among-append x (z ∷ xs) ys (inl is) = inl (inl is)
among-append x (z ∷ xs) ys (inr later) = elim (among-append x xs ys later) [ inl there ↦ inl (inr there) | inr there ↦ inr there ]

pub among-map : {A : Type 0} (f : ℕ → A) (x : A) (ws : List ℕ) → IsAmong x (map f ws) → (w : ℕ) × IsAmong w ws × (x ≡ f w)
among-map f x [] there = absurd there
among-map f x (w ∷ ws) (inl is) = (w, inl refl, is)
among-map f x (w ∷ ws) (inr later) = (let found = among-map f x ws later in (found.0, inr found.1, found.2))

among-cond : (b : Bool) (k n m : ℕ) (ms rest : List ℕ) → IsAmong k (cond b (n ∷ m ∷ ms) (m ∷ rest)) → (IsAmong k rest → (k ≡ n) ⊎ IsAmong k ms)
    → (k ≡ n) ⊎ IsAmong k (m ∷ ms)
among-cond true k n m ms rest (inl is) later = inl is
among-cond true k n m ms rest (inr there) later = inr there
among-cond false k n m ms rest (inl is) later = inr (inl is)
among-cond false k n m ms rest (inr there) later = elim (later there) [ inl is ↦ inl is | inr old ↦ inr (inr old) ]

pub among-put : (before : ℕ → ℕ → Bool) (k n : ℕ) (ms : List ℕ) → IsAmong k (put_before before n ms) → (k ≡ n) ⊎ IsAmong k ms
among-put before k n [] there = there
among-put before k n (m ∷ ms) there = among-cond (before n m) k n m ms (put_before before n ms) there (among-put before k n ms)

among-if : (before : ℕ → ℕ → Bool) (test : ℕ → Bool) (k n : ℕ) (b : Bool) (ms : List ℕ) → test n ≡ b → IsAmong k (put_if before n b ms)
    → (IsAmong k ms → test k ≡ true) → test k ≡ true
among-if before test k n true ms e there below = elim (among-put before k n ms there) [ inl is ↦ ap test is ∙ e | inr old ↦ below old ]
among-if before test k n false ms e there below = below there

-- who is listed passes
pub among-all : (before : ℕ → ℕ → Bool) (test : ℕ → Bool) (k n : ℕ) → IsAmong k (all_below before test n) → test k ≡ true
among-all before test k zero there = absurd there
among-all before test k (suc n) there =
    among-if before test k n (test n) (all_below before test n) refl there (among-all before test k n)

-- How high reasons rank.

rank-if : (b : Bool) (x y : Reason) (n : ℕ) → rank x ≤ n → rank y ≤ n → rank (cond b x y) ≤ n
rank-if true x y n here there = here
rank-if false x y n here there = there

rank-wakes : (o : Option Instance) → rank (next_or_after reason.WakesNext reason.WakesAfter o) ≤ 2
rank-wakes (Some x) = omega arith
rank-wakes None = omega arith

rank-ready : (o : Option Instance) → rank (next_or_after reason.ReadyNext reason.ReadyAfter o) ≤ 2
rank-ready (Some x) = omega arith
rank-ready None = omega arith

rank-burns : (o : Option ℕ) → rank (burns_unless o) ≤ 2
rank-burns (Some v) = omega arith
rank-burns None = omega arith

more : (a b n : ℕ) → n ≤ a → a ≤ b → n ≤ b
more a b n h k = omega arith

rank-head : (S : ScenarioContents) (s : State) (w : ℕ) (r : Running) → rank (reason_of_head S s w r) ≤ 2
rank-head S s w r =
    rank-if (r.left == 0) (next_or_after reason.ReadyNext reason.ReadyAfter (other_instance (running_half w) (mover S s r.pool))) (burns_unless (work_above S s r.pool)) 2
    (rank-ready (other_instance (running_half w) (mover S s r.pool))) (rank-burns (work_above S s r.pool))

-- the first of a CPU's high pool is next, or burns: it moves before all others of the pool, and nothing stands above
module _ (S : ScenarioContents) (s : State) (w : ℕ) (r : Running) (is : running_at s w ≡ Some r) (high : is_high r.pool ≡ true)
    (bound : is_unbound S r.pool ≡ false) (first : first_runnable S s r.pool ≡ Some w) where
  first-moves : r.left ≡ 0 → mover S s r.pool ≡ Some (running_half w)
  first-moves left =
      ap (λ (o : Option ℕ). moved_by (or_else (as_move Advance o) (or_else (as_move Wake (first_slept S s r.pool)) (start_move S s r.pool))))
      (cond-false (is_unbound S r.pool) (first_ready S s r.pool) (if_ready s (first_runnable S s r.pool)) bound ∙ ap (if_ready s) first
      ∙ cond-true (runs (λ q. q.left == 0) (running_at s w)) (Some w) None (ap (runs (λ q. q.left == 0)) is ∙ eq-eqb r.left 0 left))

  ready-first : r.left ≡ 0 → other_instance (running_half w) (mover S s r.pool) ≡ None
  ready-first left =
      ap (other_instance (running_half w)) (first-moves left)
      ∙ cond-true (is_same (running_half w) (running_half w)) None (Some (running_half w)) (same-refl (running_half w))

  none-above : work_above S s r.pool ≡ None
  none-above = cond-true (is_unbound S r.pool || is_high r.pool) None (first_runnable S s (r.pool + 1)) (or_right (is_unbound S r.pool) (is_high r.pool) high)

  rank-high : rank (reason_of_head S s w r) ≤ 1
  rank-high = by_left (r.left == 0) refl
    where
      by_left : (b : Bool) → (r.left == 0) ≡ b
          → rank (cond b (next_or_after reason.ReadyNext reason.ReadyAfter (other_instance (running_half w) (mover S s r.pool))) (burns_unless (work_above S s r.pool))) ≤ 1
      by_left true left =
          subst (λ (o : Option Instance). rank (next_or_after reason.ReadyNext reason.ReadyAfter o) ≤ 1) (sym (ready-first (eqb-true r.left 0 left))) (omega arith)
      by_left false left = subst (λ (o : Option ℕ). rank (burns_unless o) ≤ 1) (sym none-above) (omega arith)

rank-runnable : (S : ScenarioContents) (s : State) (w : ℕ) (r : Running) (o : Option ℕ) → rank (reason_of_runnable S s w r o) ≤ 3
rank-runnable S s w r (Some v) = omega arith
rank-runnable S s w r None = more 2 3 (rank (reason_of_head S s w r)) (rank-head S s w r) (omega arith)

rank-mode : (S : ScenarioContents) (s : State) (w : ℕ) (r : Running) (m : Mode) → rank (reason_in_mode S s w r m) ≤ 3
rank-mode S s w r Runnable = rank-runnable S s w r (work_before S s w r.pool)
rank-mode S s w r (Asleep until) =
    rank-if (nat_lt s.time until) (reason.Asleep until) (next_or_after reason.WakesNext reason.WakesAfter (other_instance (running_half w) (mover S s r.pool))) 3 (omega arith)
    (more 2 3 (rank (next_or_after reason.WakesNext reason.WakesAfter (other_instance (running_half w) (mover S s r.pool)))) (rank-wakes (other_instance (running_half w) (mover S s r.pool))) (omega arith))

pub some-is : (a b : Reason) → Some a ≡ Some b → a ≡ b
some-is a b e = cc

rank-running : (S : ScenarioContents) (s : State) (w : ℕ) (o : Option Running) (b : Reason) → reason_if_running S s w o ≡ Some b → rank b ≤ 3
rank-running S s w (Some r) b told = subst (λ (a : Reason). rank a ≤ 3) (some-is (reason_of_running S s w r) b told) (rank-mode S s w r r.mode)
rank-running S s w None b told = cc

rank-taken : (w pool : ℕ) (turn : Turn) (v : WorkId) → rank (free_or_after w pool turn v) ≤ 4
rank-taken w pool turn v = rank-if (v.0 == w) (reason.Free pool turn) (reason.After pool (instance.Pending v)) 4 (omega arith) (omega arith)

rank-move : (w pool : ℕ) (o : Option Move) → rank (reason_by_move w pool o) ≤ 4
rank-move w pool (Some (Advance v)) = omega arith
rank-move w pool (Some (Wake v)) = omega arith
rank-move w pool (Some (Start v)) = rank-if (v.0 == w) (reason.Free pool Starts) (reason.After pool (instance.Pending v)) 4 (omega arith) (omega arith)
rank-move w pool (Some (Defer v)) = rank-if (v.0 == w) (reason.Free pool Defers) (reason.After pool (instance.Pending v)) 4 (omega arith) (omega arith)
rank-move w pool (Some (Rescue v)) = rank-if (v.0 == w) (reason.Free pool StartsOnRescuer) (reason.After pool (instance.Pending v)) 4 (omega arith) (omega arith)
rank-move w pool None = omega arith

rank-active : (S : ScenarioContents) (s : State) (w : ℕ) (at : Place) (pool : ℕ) → is_active at pool ≡ true → rank (reason_in_place S s w at) ≤ 4
rank-active S s w (Listed q) pool active =
    rank-if (may_start S s q) (reason_by_move w q (next_move S s q)) (reason.Held q) 4 (rank-move w q (next_move S s q)) (omega arith)
rank-active S s w (Deferred q) pool active = omega arith
rank-active S s w (Timer due cpu) pool active = cc
rank-active S s w (Inactive q) pool active = cc

rank-pending : (S : ScenarioContents) (s : State) (w pool : ℕ) (o : Option Pending) (b : Reason) → pends (λ at. is_active at pool) o ≡ true
    → reason_if_pending S s w o ≡ Some b → rank b ≤ 4
rank-pending S s w pool (Some p) b active told =
    subst (λ (a : Reason). rank a ≤ 4) (some-is (reason_in_place S s w p.place) b told) (rank-active S s w p.place pool active)
rank-pending S s w pool None b active told = cc

next-rank : (a : Reason) → moves_next a ≡ true → rank a ≡ 1
next-rank reason.WakesNext e = refl
next-rank reason.ReadyNext e = refl
next-rank (reason.Free pool turn) e = refl
next-rank a e = cc

-- who is moved next ranks lowest
rank-mover : (S : ScenarioContents) (s : State) (pool : ℕ) (x : Instance) (b : Reason) → mover S s pool ≡ Some x → reason_of S s x ≡ Some b → rank b ≡ 1
rank-mover S s pool x b moves told =
    let says = moved-says S s pool x moves in
    ap rank (some-is b says.0 (sym told ∙ says.1)) ∙ next-rank says.0 says.2

-- Who is named.

half-rank : (S : ScenarioContents) (s : State) (y : Instance) (b : Reason) (w : ℕ) → reason_of S s y ≡ Some b → y ≡ running_half w → rank b ≤ 3
half-rank S s y b w told is = rank-running S s w (running_at s w) b (ap (reason_of S s) (sym is) ∙ told)

halves-rank : (S : ScenarioContents) (s : State) (y : Instance) (b : Reason) (ws : List ℕ) → reason_of S s y ≡ Some b → IsAmong y (map running_half ws) → rank b ≤ 3
halves-rank S s y b ws told there = (let found = among-map running_half y ws there in half-rank S s y b found.0 told found.2)

deferred-active : (at : Place) (pool : ℕ) → (is_deferred at && is_active at pool) ≡ true → is_active at pool ≡ true
deferred-active at pool e = (and_parts (is_deferred at) (is_active at pool) e).1

listed-active : (at : Place) (pool : ℕ) → is_listed at pool ≡ true → is_active at pool ≡ true
listed-active (Listed q) pool e = e
listed-active (Deferred q) pool e = cc
listed-active (Timer due cpu) pool e = cc
listed-active (Inactive q) pool e = cc

pends-weaker : (f g : Place → Bool) (o : Option Pending) → ((at : Place) → f at ≡ true → g at ≡ true) → pends f o ≡ true → pends g o ≡ true
pends-weaker f g (Some p) weaker e = weaker p.place e
pends-weaker f g None weaker e = e

active-rank : (S : ScenarioContents) (s : State) (y : Instance) (b : Reason) (w pool : ℕ) → reason_of S s y ≡ Some b → y ≡ pending_half w
    → pends (λ at. is_active at pool) (pending_at s w) ≡ true → rank b ≤ 4
active-rank S s y b w pool told is active = rank-pending S s w pool (pending_at s w) b active (ap (reason_of S s) (sym is) ∙ told)

holders-rank : (S : ScenarioContents) (s : State) (queue pool : ℕ) (y : Instance) (b : Reason) → reason_of S s y ≡ Some b → IsAmong y (holders S s queue pool) → rank b ≤ 4
holders-rank S s queue pool y b told there =
    let is_late = λ (w : ℕ). (queue_of S w == queue) && pends (λ at. is_deferred at && is_active at pool) (pending_at s w) in
    let is_listed_there = λ (w : ℕ). (queue_of S w == queue) && pends (λ at. is_listed at pool) (pending_at s w) in
    elim (among-append y (running_holders S s queue pool) (pending_holders S s queue pool) there) [
      | inl runs_there ↦ more 3 4 (rank b) (halves-rank S s y b (running_works S s (λ w. (queue_of S w == queue) && runs (λ r. r.pool == pool) (running_at s w))) told runs_there) (omega arith)
      | inr pends_there ↦ elim (among-append y (deferred_holders S s queue pool) (listed_holders S s queue pool) pends_there) [
        | inl late ↦ (let found = among-map pending_half y (pending_works S s is_late) late in
            let passes : is_late found.0 ≡ true = among-all (pending_before s) is_late found.0 (length S.works) found.1 in
            active-rank S s y b found.0 pool told found.2
            (pends-weaker (λ at. is_deferred at && is_active at pool) (λ at. is_active at pool) (pending_at s found.0) (λ at e. deferred-active at pool e)
            (and_parts (queue_of S found.0 == queue) (pends (λ at. is_deferred at && is_active at pool) (pending_at s found.0)) passes).1))
        | inr listed ↦ (let found = among-map pending_half y (pending_works S s is_listed_there) listed in
            let passes : is_listed_there found.0 ≡ true = among-all (pending_before s) is_listed_there found.0 (length S.works) found.1 in
            active-rank S s y b found.0 pool told found.2
            (pends-weaker (λ at. is_listed at pool) (λ at. is_active at pool) (pending_at s found.0) (λ at e. listed-active at pool e)
            (and_parts (queue_of S found.0 == queue) (pends (λ at. is_listed at pool) (pending_at s found.0)) passes).1))
      ]
    ]

-- the first of a pool that isn't unbound
pub record First (S : ScenarioContents) (s : State) (pool w : ℕ) : Type 0 where
  pub r : Running
  pub is : running_at s w ≡ Some r
  pub pool_is : r.pool ≡ pool
  pub head : IsHead S s w r

pub first-head : (S : ScenarioContents) (s : State) (pool w : ℕ) → first_runnable S s pool ≡ Some w → First S s pool w
first-head S s pool w found =
    let first = some-first (running_before s) (is_runnable_in s pool) (length S.works) (first_runnable S s pool) (runnable-is_first S s pool) w found in
    let run = runs-some (λ r. (r.pool == pool) && is_runnable r.mode) (running_at s w) first.1 in
    let here = and_parts (run.0.pool == pool) (is_runnable run.0.mode) run.2 in
    let pool_is : run.0.pool ≡ pool = eqb-true run.0.pool pool here.0 in
    record {
      r = run.0;
      is = run.1;
      pool_is = pool_is;
      head = (runnable-is run.0.mode here.1, λ e. ap (first_runnable S s) pool_is ∙ found);
    }

first-told : (S : ScenarioContents) (s : State) (pool w : ℕ) (b : Reason) (first : First S s pool w) → reason_if_running S s w (running_at s w) ≡ Some b
    → b ≡ reason_of_head S s w first.r
first-told S s pool w b first told =
    some-is b (reason_of_head S s w first.r) (sym told ∙ ap (reason_if_running S s w) first.is ∙ ap Some (head-reason S s w first.r first.head))

pub one-named : (y x : Instance) → IsAmong y (x ∷ []) → y ≡ x
one-named y x (inl is) = is
one-named y x (inr none) = absurd none

even-next : (digit twice n : ℕ) → (digit ≡ 1 → ⊥) → digit < 2 → twice + digit ≡ n → n + 1 ≡ twice + 1
even-next digit twice n other small whole = omega arith

-- behind each normal pool stands a high one
high-next : (n : ℕ) → (n % 2 == 1) ≡ false → ((n + 1) % 2 == 1) ≡ true
high-next n e =
    let next : n + 1 ≡ n / 2 * 2 + 1 = even-next (n % 2) (n / 2 * 2) n (eqb-false (n % 2) 1 e) (mod_below n 2 (omega arith)) (div-add-mod' n 2) in
    eq-eqb ((n + 1) % 2) 1 (ap (λ (k : ℕ). k % 2) next ∙ mod-mul-add (n / 2) 2 1 (omega arith))

even-below : (twice half most n : ℕ) → twice ≡ half * 2 → n + 1 ≡ twice + 1 → n < 2 * most → n + 1 < 2 * most
even-below twice half most n is next below = omega arith

-- and it is of the same CPU
high-bound : (S : ScenarioContents) (n : ℕ) → is_unbound S n ≡ false → is_high n ≡ false → is_unbound S (n + 1) ≡ false
high-bound S n bound normal =
    let next : n + 1 ≡ n / 2 * 2 + 1 = even-next (n % 2) (n / 2 * 2) n (eqb-false (n % 2) 1 normal) (mod_below n 2 (omega arith)) (div-add-mod' n 2) in
    lt-leb (2 * S.cpus) (n + 1) (even-below (n / 2 * 2) (n / 2) S.cpus n refl next (leb-false (2 * S.cpus) n bound))

run-ranks : (S : ScenarioContents) (s : State) (w : ℕ) (r : Running) (y : Instance) (a b : Reason) → RunRow S s w r a → reason_of S s y ≡ Some b
    → IsAmong y (causes S s w a) → rank b < rank a
run-ranks S s w r y a b (RunRow.wakes_after x slept moves apart) told there =
    let low : rank b ≡ 1 = rank-mover S s r.pool y b (moves ∙ ap Some (sym (one-named y x there))) told in
    omega arith
run-ranks S s w r y a b (RunRow.ready_after x head left moves apart) told there =
    let low : rank b ≡ 1 = rank-mover S s r.pool y b (moves ∙ ap Some (sym (one-named y x there))) told in
    omega arith
run-ranks S s w r y a b (RunRow.behind v mode bound first apart) told there =
    let head : First S s r.pool v.0 = first-head S s r.pool v.0 first in
    let is : b ≡ reason_of_head S s v.0 head.r = first-told S s r.pool v.0 b head (ap (reason_of S s) (sym (one-named y (instance.Running v) there)) ∙ told) in
    let low : rank b ≤ 2 = subst (λ (c : Reason). rank c ≤ 2) (sym is) (rank-head S s v.0 head.r) in
    omega arith
run-ranks S s w r y a b (RunRow.high_has v head left bound normal first) told there =
    let above : First S s (r.pool + 1) v.0 = first-head S s (r.pool + 1) v.0 first in
    let high : is_high above.r.pool ≡ true = ap is_high above.pool_is ∙ high-next r.pool normal in
    let is : b ≡ reason_of_head S s v.0 above.r = first-told S s (r.pool + 1) v.0 b above (ap (reason_of S s) (sym (one-named y (instance.Running v) there)) ∙ told) in
    let below : is_unbound S above.r.pool ≡ false = ap (is_unbound S) above.pool_is ∙ high-bound S r.pool bound normal in
    let low : rank b ≤ 1 =
    subst (λ (c : Reason). rank c ≤ 1) (sym is) (rank-high S s v.0 above.r above.is high below (ap (first_runnable S s) above.pool_is ∙ first)) in
    omega arith
run-ranks S s w r y a b row told there = absurd there

place-ranks : (S : ScenarioContents) (s : State) (w : ℕ) (at : Place) (y : Instance) (a b : Reason) → PlaceRow S s w at a → reason_of S s y ≡ Some b
    → IsAmong y (causes S s w a) → rank b < rank a
place-ranks S s w at y a b (PlaceRow.inactive pool is some) told there =
    let low : rank b ≤ 4 = holders-rank S s (queue_of S w) pool y b told there in
    omega arith
place-ranks S s w at y a b (PlaceRow.deferred pool is) told there =
    let low : rank b ≤ 3 = half-rank S s y b w told (one-named y (running_half w) there) in
    omega arith
place-ranks S s w at y a b (PlaceRow.held pool is may) told there =
    let low : rank b ≤ 3 = halves-rank S s y b (counted_works S s pool) told there in
    omega arith
place-ranks S s w at y a b (PlaceRow.no_worker pool is may moves) told there =
    let low : rank b ≤ 3 = halves-rank S s y b (works_on_workers S s (queue_of S w) pool) told there in
    omega arith
place-ranks S s w at y a b (PlaceRow.after pool x is may moves apart) told there =
    let low : rank b ≡ 1 = rank-mover S s pool y b (moves ∙ ap Some (sym (one-named y x there))) told in
    omega arith
place-ranks S s w at y a b row told there = absurd there

running-ranks : (S : ScenarioContents) (s : State) (w : ℕ) (o : Option Running) (y : Instance) (a b : Reason) → w < length S.works → running_at s w ≡ o
    → reason_if_running S s w o ≡ Some a → reason_of S s y ≡ Some b → IsAmong y (causes S s w a) → rank b < rank a
running-ranks S s w (Some r) y a b within is told other there =
    let same : reason_of_running S s w r ≡ a = some-is (reason_of_running S s w r) a told in
    run-ranks S s w r y a b (subst (RunRow S s w r) same (run-row S s w r within is)) other there
running-ranks S s w None y a b within is told other there = cc

pending-ranks : (S : ScenarioContents) (s : State) (w : ℕ) (o : Option Pending) (y : Instance) (a b : Reason) → w < length S.works → pending_at s w ≡ o
    → reason_if_pending S s w o ≡ Some a → reason_of S s y ≡ Some b → IsAmong y (causes S s w a) → rank b < rank a
pending-ranks S s w (Some p) y a b within is told other there =
    let same : reason_in_place S s w p.place ≡ a = some-is (reason_in_place S s w p.place) a told in
    place-ranks S s w p.place y a b (subst (PlaceRow S s w p.place) same (place-row S s w p within is)) other there
pending-ranks S s w None y a b within is told other there = cc

pub ranks_causes_below : InAnyState RanksCausesBelow
unfolding RanksCausesBelow
ranks_causes_below S s (instance.Pending w) y a b within told other there = pending-ranks S s w.0 (pending_at s w.0) y a b within refl told other there
ranks_causes_below S s (instance.Running w) y a b within told other there = running-ranks S s w.0 (running_at s w.0) y a b within refl told other there

-- Chains.

rank-some : (a : Reason) → 1 ≤ rank a
rank-some (reason.Inactive pool) = omega arith
rank-some (reason.Deferred pool) = omega arith
rank-some (reason.NoWorker pool) = omega arith
rank-some (reason.Held pool) = omega arith
rank-some (reason.After pool x) = omega arith
rank-some (reason.Behind v) = omega arith
rank-some (reason.HighHas v) = omega arith
rank-some (reason.ReadyAfter x) = omega arith
rank-some (reason.WakesAfter x) = omega arith
rank-some a = omega arith

rank-most : (a : Reason) → rank a ≤ 5
rank-most (reason.Inactive pool) = omega arith
rank-most (reason.Deferred pool) = omega arith
rank-most (reason.NoWorker pool) = omega arith
rank-most (reason.Held pool) = omega arith
rank-most (reason.After pool x) = omega arith
rank-most (reason.Behind v) = omega arith
rank-most (reason.HighHas v) = omega arith
rank-most (reason.ReadyAfter x) = omega arith
rank-most (reason.WakesAfter x) = omega arith
rank-most a = omega arith

-- a chain has no more instances than its first reason's rank
chain-rank : (S : ScenarioContents) (s : State) (x : Instance) (xs : List Instance) (chain : IsChainOfBlame S s (x ∷ xs)) → length (x ∷ xs) ≤ rank chain.0
unfolding RanksCausesBelow
chain-rank S s x [] chain = rank-some chain.0
chain-rank S s x (y ∷ ys) chain =
    let below : rank chain.4.0 < rank chain.0 = ranks_causes_below S s x y chain.0 chain.4.0 chain.1 chain.2 chain.4.2 chain.3 in
    let rest : length (y ∷ ys) ≤ rank chain.4.0 = chain-rank S s y ys chain.4 in
    omega arith

pub blames_at_most_five : InAnyState BlamesAtMostFive
unfolding BlamesAtMostFive
blames_at_most_five S s [] chain = omega arith
blames_at_most_five S s (x ∷ xs) chain = (let few : length (x ∷ xs) ≤ rank chain.0 = chain-rank S s x xs chain in let most : rank chain.0 ≤ 5 = rank-most chain.0 in omega arith)
