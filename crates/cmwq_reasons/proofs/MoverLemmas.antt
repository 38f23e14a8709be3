-- What a pool's next move says of the instance that it moves, and which instances are sure that there is one.
use Rattle.std.proofs.Common.{◌≡◌, ℕ, ◌<◌, Bool, true, false, cond, ◌&&◌, length, Option, Some, None, refl, ap, ◌∙◌, subst}
use Rattle.std.proofs.lemmas.Bool.{and_from, and_parts, cond-true, eq-eqb, eqb-true}
use Rattle.std.specs.Prelude.{◌==◌}
use Rattle.cmwq_types.specs.Contents.{ScenarioContents}
use Rattle.cmwq_types.specs.Scenario.{queue_of}
use Rattle.cmwq_types.specs.First.{MatchFirst, by_least_two}
use Rattle.cmwq_types.specs.declared.instr.WorkId.{WorkId}
use Rattle.cmwq_types.specs.declared.moves.Move.{Move}
use Rattle.cmwq_types.specs.declared.moves.Move.TheVariants.{Advance, Wake, Rescue}
use Rattle.cmwq_types.specs.declared.reply.Mode.TheVariants.{Runnable}
use Rattle.cmwq_types.proofs.FirstLemmas.{by_least-order, by_least_two-order, first_below-is_first}
use Rattle.cmwq_table.specs.declared.state.Running.{Running}
use Rattle.cmwq_table.specs.State.{State, is_unbound, pending_at, running_at}
use Rattle.cmwq_table.specs.Counts.{first_due, first_inactive, first_listed, first_ready, first_rescued, first_runnable, first_slept, free_worker, if_ready, is_due, is_inactive, is_listed, is_runnable, is_slept, may_start, or_else, pending_before, pending_due, pending_stamp, pends, ready_head, running_before, runs}
use Rattle.cmwq_table.proofs.Choosing.{ready-is_first, runnable-is_first, slept-is_first, slept_before}
use Rattle.cmwq_table.specs.Moves.{as_move, next_move, start_first, start_move, start_or_rescue, take_listed}
use Rattle.cmwq_reasons.specs.declared.reason.Instance.{Instance}
use Rattle.cmwq_reasons.specs.declared.reason.Instance.TheVariants as instance
use Rattle.cmwq_reasons.specs.Laws.{IsHead}
use Rattle.cmwq_reasons.specs.Reasons.{is_same, moved_by, moved_instance, mover}

-- Instances.

pub same-true : (x y : Instance) → is_same x y ≡ true → x ≡ y
same-true (instance.Pending v) (instance.Pending w) e = ap (λ (k : ℕ). instance.Pending (record { 0 = k })) (eqb-true v.0 w.0 e)
same-true (instance.Pending v) (instance.Running w) e = cc
same-true (instance.Running v) (instance.Pending w) e = cc
same-true (instance.Running v) (instance.Running w) e = ap (λ (k : ℕ). instance.Running (record { 0 = k })) (eqb-true v.0 w.0 e)

pub same-refl : (x : Instance) → is_same x x ≡ true
same-refl (instance.Pending w) = eq-eqb w.0 w.0 refl
same-refl (instance.Running w) = eq-eqb w.0 w.0 refl

pub same-false : (x y : Instance) → is_same x y ≡ false → y ≡ x → ⊥
same-false x y e is = let same : is_same x y ≡ true = ap (is_same x) is ∙ same-refl x in cc

-- The first ones.

pub none-first : (before : ℕ → ℕ → Bool) (test : ℕ → Bool) (n : ℕ) (o : Option ℕ) → MatchFirst before test n o → o ≡ None → (k : ℕ) → k < n → test k ≡ true → ⊥
none-first before test n (Some m) first e k h passes = cc
none-first before test n None none e k h passes = let fails : test k ≡ false = none k h in cc

pub some-first : (before : ℕ → ℕ → Bool) (test : ℕ → Bool) (n : ℕ) (o : Option ℕ) → MatchFirst before test n o → (m : ℕ) → o ≡ Some m → (m < n) × (test m ≡ true)
some-first before test n (Some k) first m e =
    let same : k ≡ m = cc in
    subst (λ (j : ℕ). (j < n) × (test j ≡ true)) same (first.in_range, first.passes)
some-first before test n None none m e = cc

abbrev pub is_slept_in : State → ℕ → ℕ → Bool
is_slept_in s pool w = runs (λ r. (r.pool == pool) && is_slept r.mode s.time) (running_at s w)

abbrev pub is_runnable_in : State → ℕ → ℕ → Bool
is_runnable_in s pool w = runs (λ r. (r.pool == pool) && is_runnable r.mode) (running_at s w)

abbrev pub is_ready_in : State → ℕ → ℕ → Bool
is_ready_in s pool w = runs (λ r. (r.pool == pool) && is_runnable r.mode && (r.left == 0)) (running_at s w)

abbrev pub is_listed_in : State → ℕ → ℕ → Bool
is_listed_in s pool w = pends (λ place. is_listed place pool) (pending_at s w)

abbrev pub is_due_now : State → ℕ → Bool
is_due_now s w = pends (λ place. is_due place s.time) (pending_at s w)

abbrev due_before : State → ℕ → ℕ → Bool
due_before s = by_least_two (λ w. pending_due (pending_at s w)) (λ w. pending_stamp (pending_at s w))

pub due-first : (S : ScenarioContents) (s : State) → MatchFirst (due_before s) (is_due_now s) (length S.works) (first_due S s)
due-first S s =
    first_below-is_first (due_before s) (is_due_now s) (length S.works)
    (by_least_two-order (λ w. pending_due (pending_at s w)) (λ w. pending_stamp (pending_at s w)))

-- a work item that is activated is inactive in the pool, and one of the queue
pub activated-fits : (S : ScenarioContents) (s : State) (queue pool w : ℕ) → first_inactive S s queue pool ≡ Some w
    → ((queue_of S w == queue) ≡ true) × (pends (λ place. is_inactive place pool) (pending_at s w) ≡ true)
activated-fits S s queue pool w found =
    let test = λ (v : ℕ). (queue_of S v == queue) && pends (λ place. is_inactive place pool) (pending_at s v) in
    and_parts (queue_of S w == queue) (pends (λ place. is_inactive place pool) (pending_at s w))
    (some-first (pending_before s) test (length S.works) (first_inactive S s queue pool) (first_below-is_first (pending_before s) test (length S.works) (by_least-order (λ v. pending_stamp (pending_at s v)))) w found).1

-- Who is sure of a move.

none-of-three : (a b c : Option Move) → moved_by (or_else a (or_else b c)) ≡ None → (a ≡ None) × (b ≡ None) × (c ≡ None)
none-of-three (Some m) b c e = cc
none-of-three None (Some m) c e = cc
none-of-three None None (Some m) e = cc
none-of-three None None None e = (refl, refl, refl)

pub as_move-none : (f : WorkId → Move) (o : Option ℕ) → as_move f o ≡ None → o ≡ None
as_move-none f (Some w) e = cc
as_move-none f None e = refl

still : (S : ScenarioContents) (s : State) (pool : ℕ) → mover S s pool ≡ None → (ready_head S s pool ≡ None) × (first_slept S s pool ≡ None)
still S s pool e =
    let none = none-of-three (as_move Advance (ready_head S s pool)) (as_move Wake (first_slept S s pool)) (start_move S s pool) e in
    (as_move-none Advance (ready_head S s pool) none.0, as_move-none Wake (first_slept S s pool) none.1)

runs-here : (test : Running → Bool) (o : Option Running) (r : Running) → o ≡ Some r → test r ≡ true → runs test o ≡ true
runs-here test o r is passes = ap (runs test) is ∙ passes

-- a pool where a sleep is over has a move
pub slept-moves : (S : ScenarioContents) (s : State) (w : ℕ) (r : Running) → w < length S.works → running_at s w ≡ Some r
    → is_slept r.mode s.time ≡ true → mover S s r.pool ≡ None → ⊥
slept-moves S s w r there is slept e =
    none-first (slept_before s) (is_slept_in s r.pool) (length S.works) (first_slept S s r.pool) (slept-is_first S s r.pool) ((still S s r.pool e).1) w there
    (runs-here (λ q. (q.pool == r.pool) && is_slept q.mode s.time) (running_at s w) r is
    (and_from (r.pool == r.pool) (is_slept r.mode s.time) (eq-eqb r.pool r.pool refl) slept))

-- a runnable work is behind another one, or is the first of its pool
pub runnable-some : (S : ScenarioContents) (s : State) (w : ℕ) (r : Running) → w < length S.works → running_at s w ≡ Some r → r.mode ≡ Runnable
    → first_runnable S s r.pool ≡ None → ⊥
runnable-some S s w r there is mode e =
    none-first (running_before s) (is_runnable_in s r.pool) (length S.works) (first_runnable S s r.pool) (runnable-is_first S s r.pool) e w there
    (runs-here (λ q. (q.pool == r.pool) && is_runnable q.mode) (running_at s w) r is
    (and_from (r.pool == r.pool) (is_runnable r.mode) (eq-eqb r.pool r.pool refl) (ap is_runnable mode)))

head-moves : (S : ScenarioContents) (s : State) (w : ℕ) (r : Running) → w < length S.works → running_at s w ≡ Some r → r.mode ≡ Runnable → r.left ≡ 0
    → (b : Bool) → (b ≡ false → first_runnable S s r.pool ≡ Some w) → cond b (first_ready S s r.pool) (if_ready s (first_runnable S s r.pool)) ≡ None → ⊥
head-moves S s w r there is mode left true head e =
    none-first (running_before s) (is_ready_in s r.pool) (length S.works) (first_ready S s r.pool) (ready-is_first S s r.pool) e w there
    (runs-here (λ q. (q.pool == r.pool) && is_runnable q.mode && (q.left == 0)) (running_at s w) r is
    (and_from ((r.pool == r.pool) && is_runnable r.mode) (r.left == 0)
    (and_from (r.pool == r.pool) (is_runnable r.mode) (eq-eqb r.pool r.pool refl) (ap is_runnable mode)) (eq-eqb r.left 0 left)))
head-moves S s w r there is mode left false head e =
    let idle : runs (λ q. q.left == 0) (running_at s w) ≡ true = runs-here (λ q. q.left == 0) (running_at s w) r is (eq-eqb r.left 0 left) in
    let ready : if_ready s (first_runnable S s r.pool) ≡ Some w =
    ap (if_ready s) (head refl) ∙ cond-true (runs (λ q. q.left == 0) (running_at s w)) (Some w) None idle in
    cc

-- a pool where a head has nothing left to burn has a move
pub ready-moves : (S : ScenarioContents) (s : State) (w : ℕ) (r : Running) → w < length S.works → running_at s w ≡ Some r → IsHead S s w r → r.left ≡ 0
    → mover S s r.pool ≡ None → ⊥
ready-moves S s w r there is head left e = head-moves S s w r there is head.0 left (is_unbound S r.pool) head.1 ((still S s r.pool e).0)

-- An instance that goes on is the head of its pool.

-- no other move is an advance
rescues-none : (w : WorkId) (o : Option ℕ) → as_move Rescue o ≡ Some (Advance w) → ⊥
rescues-none w (Some v) e = cc
rescues-none w None e = cc

takes-none : (w : WorkId) (v : ℕ) (r : Option Running) (worker rescued : Option ℕ) → or_else (take_listed v r worker) (as_move Rescue rescued) ≡ Some (Advance w) → ⊥
takes-none w v (Some r) worker rescued e = cc
takes-none w v None (Some k) rescued e = cc
takes-none w v None None rescued e = rescues-none w rescued e

starts-none : (s : State) (w : WorkId) (o worker rescued : Option ℕ) → or_else (start_first s o worker) (as_move Rescue rescued) ≡ Some (Advance w) → ⊥
starts-none s w (Some v) worker rescued e = takes-none w v (running_at s v) worker rescued e
starts-none s w None worker rescued e = rescues-none w rescued e

starts-none-if : (S : ScenarioContents) (s : State) (pool : ℕ) (w : WorkId) (b : Bool) → cond b (start_or_rescue S s pool) None ≡ Some (Advance w) → ⊥
starts-none-if S s pool w true e = starts-none s w (first_listed S s pool) (free_worker S s pool) (first_rescued S s pool) e
starts-none-if S s pool w false e = cc

head-if : (S : ScenarioContents) (s : State) (pool : ℕ) (w : WorkId) (head slept : Option ℕ) → or_else (as_move Advance head) (or_else (as_move Wake slept) (start_move S s pool)) ≡ Some (Advance w)
    → head ≡ Some w.0
head-if S s pool w (Some v) slept e = (let same : record { 0 = v } ≡ w = cc in ap (λ (x : WorkId). Some x.0) same)
head-if S s pool w None (Some v) e = cc
head-if S s pool w None None e = absurd (starts-none-if S s pool w (may_start S s pool) e)

pub advances-head : (S : ScenarioContents) (s : State) (pool : ℕ) (w : WorkId) → next_move S s pool ≡ Some (Advance w) → ready_head S s pool ≡ Some w.0
advances-head S s pool w e = head-if S s pool w (ready_head S s pool) (first_slept S s pool) e

pub moved_by-some : (o : Option Move) (x : Instance) → moved_by o ≡ Some x → (move : Move) × (o ≡ Some move) × (moved_instance move ≡ x)
moved_by-some (Some move) x e = (move, refl, cc)
moved_by-some None x e = cc
