-- How many are named.
use Rattle.std.proofs.Common.{◌≡◌, ℕ, zero, suc, ◌+◌, ◌<◌, ◌≤◌, Bool, true, false, not, cond, ◌&&◌, List, [], ◌∷◌, length, Option, Some, None, arith, refl, sym, ap, ◌∙◌, subst}
use Rattle.std.proofs.lemmas.Bool.{cond-false, eq-eqb, ltb-false, or_parts}
use Rattle.std.proofs.lemmas.List.{length-append, length-map}
use Rattle.std.specs.Prelude.{is_some, nat_lt, ◌==◌}
use Rattle.cmwq_types.specs.Contents.{ScenarioContents}
use Rattle.cmwq_types.specs.First.{by_greatest, count_below}
use Rattle.cmwq_types.specs.Scenario.{flags_at, queue_of}
use Rattle.cmwq_types.specs.declared.moves.Move.{Move}
use Rattle.cmwq_types.specs.declared.moves.Move.TheVariants.{Advance, Wake, Rescue}
use Rattle.cmwq_types.specs.declared.reply.Place.{Place}
use Rattle.cmwq_types.specs.declared.reply.Place.TheVariants.{Timer, Inactive, Listed, Deferred}
use Rattle.cmwq_types.proofs.FirstLemmas.{by_greatest-order, first_below-is_first}
use Rattle.cmwq_table.specs.declared.state.Pending.{Pending}
use Rattle.cmwq_table.specs.declared.state.Running.{Running}
use Rattle.cmwq_table.specs.State.{State, idle_at, is_unbound, made_at, max_at, pending_at, running_at}
use Rattle.cmwq_table.specs.Counts.{active, counted, first_listed, first_rescued, first_slept, free_worker, idle_stamp, is_active, is_counted, is_deferred, is_inactive, is_listed, last_idle, limit, may_start, new_worker, or_else, pending_before, pends, ready_head, running_before, runs}
use Rattle.cmwq_table.specs.Laws.{HasNoIdleWorker, InEveryState, LeavesNoRoom}
use Rattle.cmwq_table.specs.Moves.{as_move, next_move, start_first, start_move, start_or_rescue, take_listed}
use Rattle.cmwq_table.specs.Table.{run}
use Rattle.cmwq_dump.specs.Order.{all_below, put_before, put_if}
use Rattle.cmwq_reasons.specs.declared.reason.Reason.TheVariants as reason
use Rattle.cmwq_reasons.specs.Laws.{HeldNamesCounted, InAnyState, InactiveNamesActive, NoWorkerIsFree}
use Rattle.cmwq_reasons.specs.Reasons.{causes, counted_works, deferred_holders, holders, listed_holders, pending_half, pending_holders, pending_works, reason_in_place, running_half, running_holders, running_works}
use Rattle.cmwq_reasons.proofs.BelowLemmas.{bit, count-split}
use Rattle.cmwq_table.proofs.Choosing.{listed-is_first}
use Rattle.cmwq_reasons.proofs.MoverLemmas.{is_listed_in, none-first}
use Rattle.cmwq_reasons.proofs.PendingRows.{held-from, inactive-from, no_worker-from, place-row}
use Rattle.cmwq_reasons.proofs.RunningRows.{not-zero}

-- Lengths.

length-cond : (b : Bool) (n m : ℕ) (ms rest : List ℕ) → length rest ≡ suc (length ms) → length (cond b (n ∷ m ∷ ms) (m ∷ rest)) ≡ suc (suc (length ms))
length-cond true n m ms rest e = refl
length-cond false n m ms rest e = ap suc e

length-put : (before : ℕ → ℕ → Bool) (n : ℕ) (ms : List ℕ) → length (put_before before n ms) ≡ suc (length ms)
length-put before n [] = refl
length-put before n (m ∷ ms) = length-cond (before n m) n m ms (put_before before n ms) (length-put before n ms)

length-if : (before : ℕ → ℕ → Bool) (n count : ℕ) (b : Bool) (ms : List ℕ) → length ms ≡ count → length (put_if before n b ms) ≡ count + cond b 1 0
length-if before n count true ms e = (let more : length (put_before before n ms) ≡ suc (length ms) = length-put before n ms in omega arith)
length-if before n count false ms e = omega arith

pub length-all : (before : ℕ → ℕ → Bool) (test : ℕ → Bool) (n : ℕ) → length (all_below before test n) ≡ count_below test n
length-all before test zero = refl
length-all before test (suc n) = length-if before n (count_below test n) (test n) (all_below before test n) (length-all before test n)

-- Holders.

split-place : (at : Place) (pool : ℕ) → bit (is_active at pool) ≡ bit (is_deferred at && is_active at pool) + bit (is_listed at pool)
split-place (Listed q) pool = omega arith
split-place (Deferred q) pool = omega arith
split-place (Timer due cpu) pool = refl
split-place (Inactive q) pool = refl

split-pending : (q : Bool) (o : Option Pending) (pool : ℕ)
    → bit (q && pends (λ at. is_active at pool) o) ≡ bit (q && pends (λ at. is_deferred at && is_active at pool) o) + bit (q && pends (λ at. is_listed at pool) o)
split-pending true (Some p) pool = split-place p.place pool
split-pending true None pool = refl
split-pending false o pool = refl

named-active : (S : ScenarioContents) (s : State) (queue pool : ℕ) → length (holders S s queue pool) ≡ active S s queue pool
named-active S s queue pool =
    let runs_there = λ (w : ℕ). (queue_of S w == queue) && runs (λ r. r.pool == pool) (running_at s w) in
    let is_late = λ (w : ℕ). (queue_of S w == queue) && pends (λ at. is_deferred at && is_active at pool) (pending_at s w) in
    let is_there = λ (w : ℕ). (queue_of S w == queue) && pends (λ at. is_listed at pool) (pending_at s w) in
    let is_up = λ (w : ℕ). (queue_of S w == queue) && pends (λ at. is_active at pool) (pending_at s w) in
    let running : length (running_holders S s queue pool) ≡ count_below runs_there (length S.works) =
    length-map (running_works S s runs_there) running_half ∙ length-all (running_before s) runs_there (length S.works) in
    let late : length (deferred_holders S s queue pool) ≡ count_below is_late (length S.works) =
    length-map (pending_works S s is_late) pending_half ∙ length-all (pending_before s) is_late (length S.works) in
    let listed : length (listed_holders S s queue pool) ≡ count_below is_there (length S.works) =
    length-map (pending_works S s is_there) pending_half ∙ length-all (pending_before s) is_there (length S.works) in
    let all : length (holders S s queue pool) ≡ length (running_holders S s queue pool) + length (pending_holders S s queue pool) =
    length-append (running_holders S s queue pool) (pending_holders S s queue pool) in
    let pending : length (pending_holders S s queue pool) ≡ length (deferred_holders S s queue pool) + length (listed_holders S s queue pool) =
    length-append (deferred_holders S s queue pool) (listed_holders S s queue pool) in
    let split : count_below is_up (length S.works) ≡ count_below is_late (length S.works) + count_below is_there (length S.works) =
    count-split is_up is_late is_there (length S.works) (λ w. split-pending (queue_of S w == queue) (pending_at s w) pool) in
    let is : active S s queue pool ≡ count_below is_up (length S.works) + count_below runs_there (length S.works) = refl in
    sums (length (holders S s queue pool)) (length (running_holders S s queue pool)) (length (pending_holders S s queue pool)) (length (deferred_holders S s queue pool))
    (length (listed_holders S s queue pool)) (count_below runs_there (length S.works)) (count_below is_late (length S.works)) (count_below is_there (length S.works))
    (count_below is_up (length S.works)) (active S s queue pool) all pending running late listed split is
  where
    sums : (a r p d l cr cd cl cu act : ℕ) → a ≡ r + p → p ≡ d + l → r ≡ cr → d ≡ cd → l ≡ cl → cu ≡ cd + cl → act ≡ cu + cr → a ≡ act
    sums a r p d l cr cd cl cu act all pending running late listed split is = omega arith

limit-max : (S : ScenarioContents) (s : State) (queue : ℕ) (b : Bool) → 0 < cond b 0 (max_at s queue) → cond b 0 (max_at s queue) ≡ max_at s queue
limit-max S s queue true some = absurd (omega arith)
limit-max S s queue false some = refl

inactive-here : (at : Place) (pool : ℕ) → at ≡ Inactive pool → is_inactive at pool ≡ true
inactive-here at pool e = ap (λ (p : Place). is_inactive p pool) e ∙ eq-eqb pool pool refl

pub inactive_names_active : InEveryState LeavesNoRoom → InEveryState InactiveNamesActive
unfolding LeavesNoRoom InactiveNamesActive
inactive_names_active full S valid instrs w p there is pool told =
    let s = run S instrs in
    let row = inactive-from S s w p.place (reason_in_place S s w p.place) (place-row S s w p there is) pool told in
    let named : length (causes S s w (reason.Inactive pool)) ≡ active S s (queue_of S w) pool = named-active S s (queue_of S w) pool in
    let enough : limit S s (queue_of S w) ≤ active S s (queue_of S w) pool = full S valid instrs pool w (p, is, inactive-here p.place pool row.0) in (
      named,
      subst (λ (n : ℕ). limit S s (queue_of S w) ≤ n) (sym named) enough,
      limit-max S s (queue_of S w) (s.frozen && (flags_at S (queue_of S w)).freezable) row.1,
      row.1,
    )

-- The concurrency level.

level : (S : ScenarioContents) (s : State) (pool : ℕ) → is_unbound S pool ≡ false → length (counted_works S s pool) ≡ counted S s pool
level S s pool bound =
    length-all (running_before s) (is_counted S s pool) (length S.works)
    ∙ sym (cond-false (is_unbound S pool) 0 (count_below (λ w. is_counted S s pool w) (length S.works)) bound)

pub held_names_counted : InAnyState HeldNamesCounted
unfolding HeldNamesCounted
held_names_counted S s w p there is pool told =
    let row = held-from S s w p.place (reason_in_place S s w p.place) (place-row S s w p there is) pool told in
    let both = or_parts (is_unbound S pool) (counted S s pool == 0) row.1 in
    (length-map (counted_works S s pool) running_half ∙ level S s pool both.0, not-zero (counted S s pool) both.1)

-- Workers.

pub last-none : (a b : Option Move) → or_else a b ≡ None → b ≡ None
last-none (Some x) b e = cc
last-none None b e = e

first-none : (a b : Option Move) → or_else a b ≡ None → a ≡ None
first-none (Some x) b e = cc
first-none None b e = refl

not-taken : (w : ℕ) (r : Option Running) (worker : Option ℕ) → take_listed w r worker ≡ None → worker ≡ None
not-taken w (Some r) worker e = cc
not-taken w None (Some worker) e = cc
not-taken w None None e = refl

not-first : (S : ScenarioContents) (s : State) (pool w : ℕ) (worker o : Option ℕ) → w < length S.works → is_listed_in s pool w ≡ true
    → first_listed S s pool ≡ o → start_first s o worker ≡ None → worker ≡ None
not-first S s pool w worker (Some m) there listed first e = not-taken m (running_at s m) worker e
not-first S s pool w worker None there listed first e =
    absurd (none-first (pending_before s) (is_listed_in s pool) (length S.works) (first_listed S s pool) (listed-is_first S s pool) first w there listed)

pub no-start : (S : ScenarioContents) (s : State) (pool : ℕ) → next_move S s pool ≡ None → start_move S s pool ≡ None
no-start S s pool e =
    last-none (as_move Wake (first_slept S s pool)) (start_move S s pool)
    (last-none (as_move Advance (ready_head S s pool)) (or_else (as_move Wake (first_slept S s pool)) (start_move S s pool)) e)

pub may-start : (b : Bool) (o : Option Move) → b ≡ true → cond b o None ≡ None → o ≡ None
may-start true o may e = e
may-start false o may e = cc

neither-worker : (a b : Option ℕ) → or_else a b ≡ None → (a ≡ None) × (b ≡ None)
neither-worker (Some x) b e = cc
neither-worker None b e = (refl, e)

no-some : (o : Option ℕ) → (is_some o ≡ true → ⊥) → o ≡ None
no-some (Some x) never = absurd (never refl)
no-some None never = refl

none-idle : (S : ScenarioContents) (s : State) (pool : ℕ) → last_idle S s pool ≡ None → HasNoIdleWorker S s pool
none-idle S s pool e worker there =
    no-some (idle_at s pool worker)
    (λ idle. none-first (by_greatest (λ worker. idle_stamp (idle_at s pool worker))) (λ worker. is_some (idle_at s pool worker)) S.workers (last_idle S s pool)
    (first_below-is_first (by_greatest (λ worker. idle_stamp (idle_at s pool worker))) (λ worker. is_some (idle_at s pool worker)) S.workers
    (by_greatest-order (λ worker. idle_stamp (idle_at s pool worker)))) e worker there idle)

none-made : (made most : ℕ) (pressed b : Bool) → nat_lt made most ≡ b → cond (not pressed && b) (Some made) None ≡ None → pressed ≡ false → most ≤ made
none-made made most true b test e ample = cc
none-made made most false true test e ample = cc
none-made made most false false test e ample = ltb-false made most test

pub listed-here : (s : State) (w pool : ℕ) (p : Pending) → pending_at s w ≡ Some p → p.place ≡ Listed pool → is_listed_in s pool w ≡ true
listed-here s w pool p is at = ap (pends (λ place. is_listed place pool)) is ∙ ap (λ (place : Place). is_listed place pool) at ∙ eq-eqb pool pool refl

pub no_worker_is_free : InAnyState NoWorkerIsFree
unfolding NoWorkerIsFree
no_worker_is_free S s w p there is pool told =
    let row = no_worker-from S s w p.place (reason_in_place S s w p.place) (place-row S s w p there is) pool told in
    let none : start_or_rescue S s pool ≡ None = may-start (may_start S s pool) (start_or_rescue S s pool) row.1 (no-start S s pool row.2) in
    let free : free_worker S s pool ≡ None =
    not-first S s pool w (free_worker S s pool) (first_listed S s pool) there (listed-here s w pool p is row.0) refl
    (first-none (start_first s (first_listed S s pool) (free_worker S s pool)) (as_move Rescue (first_rescued S s pool)) none) in
    let both = neither-worker (last_idle S s pool) (new_worker S s pool) free in
    (none-idle S s pool both.0, none-made (made_at s pool) S.workers s.pressed (nat_lt (made_at s pool) S.workers) refl both.1)
