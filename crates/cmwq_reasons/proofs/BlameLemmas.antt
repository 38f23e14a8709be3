-- Blame goes on to its end: whom a reason blames is there, and who blames nobody waits for no other instance, or lacks memory.
use Rattle.std.proofs.Common.{◌≡◌, ◌⊎◌, ℕ, zero, suc, ◌+◌, ◌<◌, Bool, true, false, not, ◌&&◌, List, [], ◌∷◌, ◌++◌, length, map, Option, Some, None, arith, refl, sym, ap, ◌∙◌, subst, inl, inr}
use Rattle.std.proofs.lemmas.Bool.{and_parts}
use Rattle.std.specs.Prelude.{is_some, ◌==◌}
use Rattle.cmwq_types.specs.Contents.{ScenarioContents}
use Rattle.cmwq_types.specs.Scenario.{flags_at, queue_of}
use Rattle.cmwq_types.specs.declared.reply.Place.{Place}
use Rattle.cmwq_table.specs.declared.state.Pending.{Pending}
use Rattle.cmwq_table.specs.declared.state.Running.{Running}
use Rattle.cmwq_table.specs.State.{State, pending_at, running_at}
use Rattle.cmwq_table.specs.Counts.{first_runnable, is_active, is_counted, is_deferred, is_listed, is_rescuer, is_runnable, pending_before, pends, running_before, runs, runs_on_rescuer}
use Rattle.cmwq_table.specs.Laws.{HasOneRescuer, InEveryState, IsNotReentrant, LeavesNoRoom}
use Rattle.cmwq_table.specs.Table.{run}
use Rattle.cmwq_dump.specs.Order.{all_below, put_if}
use Rattle.cmwq_reasons.specs.declared.reason.Instance.{Instance}
use Rattle.cmwq_reasons.specs.declared.reason.Instance.TheVariants as instance
use Rattle.cmwq_reasons.specs.declared.reason.Reason.{Reason}
use Rattle.cmwq_reasons.specs.declared.reason.Reason.TheVariants as reason
use Rattle.cmwq_reasons.specs.Laws.{BlamesWhoIsThere, EndsBlame, HeldNamesCounted, InactiveNamesActive, IsAmong, IsThere, NoWorkerNamesAll, waits_for_nobody}
use Rattle.cmwq_reasons.specs.Reasons.{causes, counted_works, deferred_holders, holders, lacks_memory, listed_holders, mover, pending_half, pending_holders, pending_works, reason_if_pending, reason_if_running, reason_in_place, reason_of_running, running_half, running_holders, running_works, works_on_pool_workers, works_on_rescuer, works_on_workers}
use Rattle.cmwq_reasons.proofs.CountLemmas.{held_names_counted, inactive_names_active}
use Rattle.cmwq_table.proofs.Choosing.{runnable-is_first}
use Rattle.cmwq_reasons.proofs.MoverLemmas.{is_runnable_in, some-first}
use Rattle.cmwq_reasons.proofs.NextLemmas.{moved-says}
use Rattle.cmwq_reasons.proofs.NoWorkerLemmas.{no_worker_names_all}
use Rattle.cmwq_reasons.proofs.PendingRows.{PlaceRow, place-row}
use Rattle.cmwq_reasons.proofs.RankLemmas.{among-all, among-append, among-map, among-put, one-named, some-is}
use Rattle.cmwq_reasons.proofs.RunningRows.{RunRow, run-row}

-- Who is listed is a number below.

among-if_below : (before : ℕ → ℕ → Bool) (n : ℕ) (b : Bool) (ms : List ℕ) → ((k : ℕ) → IsAmong k ms → k < n) → (k : ℕ) → IsAmong k (put_if before n b ms) → k < suc n
among-if_below before n true ms below k there = elim (among-put before k n ms there) [
  | inl is ↦ omega arith
  | inr old ↦ (let less : k < n = below k old in omega arith)
]
among-if_below before n false ms below k there = (let less : k < n = below k there in omega arith)

among-below : (before : ℕ → ℕ → Bool) (test : ℕ → Bool) (n k : ℕ) → IsAmong k (all_below before test n) → k < n
among-below before test zero k there = absurd there
among-below before test (suc n) k there =
    among-if_below before n (test n) (all_below before test n) (λ j old. among-below before test n j old) k there

-- Who is there.

running-reason : (S : ScenarioContents) (s : State) (w : ℕ) (o : Option Running) → is_some o ≡ true → (a : Reason) × (reason_if_running S s w o ≡ Some a)
running-reason S s w (Some r) e = (reason_of_running S s w r, refl)
running-reason S s w None e = cc

pending-reason : (S : ScenarioContents) (s : State) (w : ℕ) (o : Option Pending) (test : Place → Bool) → pends test o ≡ true
    → (a : Reason) × (reason_if_pending S s w o ≡ Some a)
pending-reason S s w (Some p) test e = (reason_in_place S s w p.place, refl)
pending-reason S s w None test e = cc

runs-is_some : (test : Running → Bool) (o : Option Running) → runs test o ≡ true → is_some o ≡ true
runs-is_some test (Some r) e = refl
runs-is_some test None e = cc

module _ (S : ScenarioContents) (s : State) where
  half-there : (y : Instance) (w : ℕ) → y ≡ running_half w → w < length S.works → is_some (running_at s w) ≡ true → IsThere S s y
  half-there y w is there some = subst (IsThere S s) (sym is) (there, running-reason S s w (running_at s w) some)

  placed-there : (y : Instance) (w : ℕ) (test : Place → Bool) → y ≡ pending_half w → w < length S.works → pends test (pending_at s w) ≡ true → IsThere S s y
  placed-there y w test is there some = subst (IsThere S s) (sym is) (there, pending-reason S s w (pending_at s w) test some)

  mover-there : (pool : ℕ) (x : Instance) → mover S s pool ≡ Some x → IsThere S s x
  mover-there pool x moves = (let says = moved-says S s pool x moves in (says.4, (says.0, says.1)))

  first-there : (pool w : ℕ) → first_runnable S s pool ≡ Some w → IsThere S s (running_half w)
  first-there pool w found =
      let first = some-first (running_before s) (is_runnable_in s pool) (length S.works) (first_runnable S s pool) (runnable-is_first S s pool) w found in
      half-there (running_half w) w refl first.0 (runs-is_some (λ r. (r.pool == pool) && is_runnable r.mode) (running_at s w) first.1)

  -- who stands in a list of running works
  works-there : (test : ℕ → Bool) (y : Instance) → ((w : ℕ) → test w ≡ true → is_some (running_at s w) ≡ true)
      → IsAmong y (map running_half (running_works S s test)) → IsThere S s y
  works-there test y runs there =
      let found = among-map running_half y (running_works S s test) there in
      half-there y found.0 found.2 (among-below (running_before s) test (length S.works) found.0 found.1)
      (runs found.0 (among-all (running_before s) test found.0 (length S.works) found.1))

  places-there : (test : ℕ → Bool) (place : Place → Bool) (y : Instance) → ((w : ℕ) → test w ≡ true → pends place (pending_at s w) ≡ true)
      → IsAmong y (map pending_half (pending_works S s test)) → IsThere S s y
  places-there test place y pend there =
      let found = among-map pending_half y (pending_works S s test) there in
      placed-there y found.0 place found.2 (among-below (pending_before s) test (length S.works) found.0 found.1)
      (pend found.0 (among-all (pending_before s) test found.0 (length S.works) found.1))

  holders-there : (queue pool : ℕ) (y : Instance) → IsAmong y (holders S s queue pool) → IsThere S s y
  holders-there queue pool y there = elim (among-append y (running_holders S s queue pool) (pending_holders S s queue pool) there) [
    | inl runs_there ↦ works-there (λ w. (queue_of S w == queue) && runs (λ r. r.pool == pool) (running_at s w)) y
        (λ w e. runs-is_some (λ r. r.pool == pool) (running_at s w) (and_parts (queue_of S w == queue) (runs (λ r. r.pool == pool) (running_at s w)) e).1) runs_there
    | inr pends_there ↦ elim (among-append y (deferred_holders S s queue pool) (listed_holders S s queue pool) pends_there) [
      | inl late ↦ places-there (λ w. (queue_of S w == queue) && pends (λ at. is_deferred at && is_active at pool) (pending_at s w)) (λ at. is_deferred at && is_active at pool) y
          (λ w e. (and_parts (queue_of S w == queue) (pends (λ at. is_deferred at && is_active at pool) (pending_at s w)) e).1) late
      | inr listed ↦ places-there (λ w. (queue_of S w == queue) && pends (λ at. is_listed at pool) (pending_at s w)) (λ at. is_listed at pool) y
          (λ w e. (and_parts (queue_of S w == queue) (pends (λ at. is_listed at pool) (pending_at s w)) e).1) listed
    ]
  ]

  counted-there : (pool : ℕ) (y : Instance) → IsAmong y (map running_half (counted_works S s pool)) → IsThere S s y
  counted-there pool y there =
      works-there (is_counted S s pool) y
      (λ w e. runs-is_some (λ r. (r.pool == pool) && is_runnable r.mode) (running_at s w)
      (and_parts (runs (λ r. (r.pool == pool) && is_runnable r.mode) (running_at s w)) (not (flags_at S (queue_of S w)).cpu_intensive) e).0) there

  among-parts : (y : Instance) (vs ws : List ℕ) → IsAmong y (map running_half (vs ++ ws)) → IsAmong y (map running_half vs) ⊎ IsAmong y (map running_half ws)
  among-parts y [] ws there = inr there
  among-parts y (v ∷ vs) ws (inl is) = inl (inl is)
  among-parts y (v ∷ vs) ws (inr later) = elim (among-parts y vs ws later) [ inl there ↦ inl (inr there) | inr there ↦ inr there ]

  workers-there : (queue pool : ℕ) (y : Instance) → IsAmong y (map running_half (works_on_workers S s queue pool)) → IsThere S s y
  workers-there queue pool y there = elim (among-parts y (works_on_pool_workers S s pool) (works_on_rescuer S s queue) there) [
    | inl on_pool ↦ works-there (λ w. runs (λ r. (r.pool == pool) && not (is_rescuer r.worker)) (running_at s w)) y
        (λ w e. runs-is_some (λ r. (r.pool == pool) && not (is_rescuer r.worker)) (running_at s w) e) on_pool
    | inr rescued ↦ works-there (λ w. (queue_of S w == queue) && runs_on_rescuer s w) y
        (λ w e. runs-is_some (λ r. is_rescuer r.worker) (running_at s w) (and_parts (queue_of S w == queue) (runs_on_rescuer s w) e).1) rescued
  ]

  run-there : (w : ℕ) (r : Running) (y : Instance) (a : Reason) → RunRow S s w r a → IsAmong y (causes S s w a) → IsThere S s y
  run-there w r y a (RunRow.wakes_after x slept moves apart) there = mover-there r.pool y (moves ∙ ap Some (sym (one-named y x there)))
  run-there w r y a (RunRow.ready_after x head left moves apart) there = mover-there r.pool y (moves ∙ ap Some (sym (one-named y x there)))
  run-there w r y a (RunRow.behind v mode bound first apart) there =
      subst (IsThere S s) (sym (one-named y (instance.Running v) there)) (first-there r.pool v.0 first)
  run-there w r y a (RunRow.high_has v head left bound normal first) there =
      subst (IsThere S s) (sym (one-named y (instance.Running v) there)) (first-there (r.pool + 1) v.0 first)
  run-there w r y a row there = absurd there

  place-there : (w : ℕ) (at : Place) (y : Instance) (a : Reason) → w < length S.works → (is_deferred at ≡ true → is_some (running_at s w) ≡ true)
      → PlaceRow S s w at a → IsAmong y (causes S s w a) → IsThere S s y
  place-there w at y a declared runs (PlaceRow.inactive pool is some) there = holders-there (queue_of S w) pool y there
  place-there w at y a declared runs (PlaceRow.deferred pool is) there =
      half-there y w (one-named y (running_half w) there) declared (runs (ap is_deferred is))
  place-there w at y a declared runs (PlaceRow.held pool is may) there = counted-there pool y there
  place-there w at y a declared runs (PlaceRow.no_worker pool is may moves) there = workers-there (queue_of S w) pool y there
  place-there w at y a declared runs (PlaceRow.after pool x is may moves apart) there = mover-there pool y (moves ∙ ap Some (sym (one-named y x there)))
  place-there w at y a declared runs row there = absurd there

  running-there : (w : ℕ) (o : Option Running) (y : Instance) (a : Reason) → w < length S.works → running_at s w ≡ o → reason_if_running S s w o ≡ Some a
      → IsAmong y (causes S s w a) → IsThere S s y
  running-there w (Some r) y a declared is told there =
      run-there w r y a (subst (RunRow S s w r) (some-is (reason_of_running S s w r) a told) (run-row S s w r declared is)) there
  running-there w None y a declared is told there = cc

  pending-there : (w : ℕ) (o : Option Pending) (y : Instance) (a : Reason) → IsNotReentrant S s → w < length S.works → pending_at s w ≡ o
      → reason_if_pending S s w o ≡ Some a → IsAmong y (causes S s w a) → IsThere S s y
  unfolding IsNotReentrant
  pending-there w (Some p) y a apart declared is told there =
      place-there w p.place y a declared (apart w p is).1
      (subst (PlaceRow S s w p.place) (some-is (reason_in_place S s w p.place) a told) (place-row S s w p declared is)) there
  pending-there w None y a apart declared is told there = cc

pub blames_who_is_there : InEveryState IsNotReentrant → InEveryState BlamesWhoIsThere
unfolding BlamesWhoIsThere
blames_who_is_there apart S valid instrs (instance.Pending w) y a declared told there =
    pending-there S (run S instrs) w.0 (pending_at (run S instrs) w.0) y a (apart S valid instrs) declared refl told there
blames_who_is_there apart S valid instrs (instance.Running w) y a declared told there =
    running-there S (run S instrs) w.0 (running_at (run S instrs) w.0) y a declared refl told there

-- Who blames nobody.

run-ends : (S : ScenarioContents) (s : State) (w : ℕ) (r : Running) (a : Reason) → RunRow S s w r a → causes S s w a ≡ [] → waits_for_nobody a ≡ true
run-ends S s w r a (RunRow.wakes_after x slept moves apart) nobody = cc
run-ends S s w r a (RunRow.ready_after x head left moves apart) nobody = cc
run-ends S s w r a (RunRow.behind v mode bound first apart) nobody = cc
run-ends S s w r a (RunRow.high_has v head left bound normal first) nobody = cc
run-ends S s w r a row nobody = refl

-- what else the reasons of a pending half come to
record NamesSome (S : ScenarioContents) (s : State) (w : ℕ) (p : Pending) : Type 0 where
  inactive : (pool : ℕ) → reason_in_place S s w p.place ≡ reason.Inactive pool → 0 < length (causes S s w (reason.Inactive pool))
  held : (pool : ℕ) → reason_in_place S s w p.place ≡ reason.Held pool → 0 < length (causes S s w (reason.Held pool))
  no_worker : (pool : ℕ) → reason_in_place S s w p.place ≡ reason.NoWorker pool → causes S s w (reason.NoWorker pool) ≡ []
      → lacks_memory S s (pending_half w) ≡ true

none-named : (xs : List Instance) → 0 < length xs → xs ≡ [] → ⊥
none-named [] some e = omega arith
none-named (x ∷ xs) some e = cc

place-ends : (S : ScenarioContents) (s : State) (w : ℕ) (p : Pending) (a : Reason) → NamesSome S s w p → reason_in_place S s w p.place ≡ a
    → PlaceRow S s w p.place a → causes S s w a ≡ [] → (waits_for_nobody a ≡ true) ⊎ (lacks_memory S s (pending_half w) ≡ true)
place-ends S s w p a names told (PlaceRow.inactive pool is some) nobody = absurd (none-named (causes S s w (reason.Inactive pool)) (names.inactive pool told) nobody)
place-ends S s w p a names told (PlaceRow.held pool is may) nobody = absurd (none-named (causes S s w (reason.Held pool)) (names.held pool told) nobody)
place-ends S s w p a names told (PlaceRow.no_worker pool is may moves) nobody = inr (names.no_worker pool told nobody)
place-ends S s w p a names told (PlaceRow.deferred pool is) nobody = cc
place-ends S s w p a names told (PlaceRow.after pool x is may moves apart) nobody = cc
place-ends S s w p a names told row nobody = inl refl

pub ends_blame : InEveryState LeavesNoRoom → InEveryState HasOneRescuer → InEveryState IsNotReentrant → InEveryState EndsBlame
unfolding EndsBlame InactiveNamesActive HeldNamesCounted NoWorkerNamesAll
ends_blame full rescuers apart S valid instrs (instance.Pending w) a declared told nobody = of_pending (pending_at (run S instrs) w.0) refl told
  where
    names : (p : Pending) → pending_at (run S instrs) w.0 ≡ Some p → NamesSome S (run S instrs) w.0 p
    names p is = record {
      inactive = λ pool e. (let law = inactive_names_active full S valid instrs w.0 p declared is pool e in omega (arith, law.1, law.3));
      held = λ pool e. (let law = held_names_counted S (run S instrs) w.0 p declared is pool e in omega (arith, law.0, law.1));
      no_worker = λ pool e none. (no_worker_names_all apart rescuers S valid instrs w.0 p declared is pool e).2.0 none;
    }

    of_pending : (o : Option Pending) → pending_at (run S instrs) w.0 ≡ o → reason_if_pending S (run S instrs) w.0 o ≡ Some a
        → (waits_for_nobody a ≡ true) ⊎ (lacks_memory S (run S instrs) (instance.Pending w) ≡ true)
    of_pending (Some p) is e =
        let same : reason_in_place S (run S instrs) w.0 p.place ≡ a = some-is (reason_in_place S (run S instrs) w.0 p.place) a e in
        place-ends S (run S instrs) w.0 p a (names p is) same
        (subst (PlaceRow S (run S instrs) w.0 p.place) same (place-row S (run S instrs) w.0 p declared is)) nobody
    of_pending None is e = cc
ends_blame full rescuers apart S valid instrs (instance.Running w) a declared told nobody = of_running (running_at (run S instrs) w.0) refl told
  where
    of_running : (o : Option Running) → running_at (run S instrs) w.0 ≡ o → reason_if_running S (run S instrs) w.0 o ≡ Some a
        → (waits_for_nobody a ≡ true) ⊎ (lacks_memory S (run S instrs) (instance.Running w) ≡ true)
    of_running (Some r) is e =
        inl (run-ends S (run S instrs) w.0 r a
        (subst (RunRow S (run S instrs) w.0 r) (some-is (reason_of_running S (run S instrs) w.0 r) a e) (run-row S (run S instrs) w.0 r declared is)) nobody)
    of_running None is e = cc
