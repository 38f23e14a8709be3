-- What the lines say of each work.
use Rattle.std.proofs.Common.{◌≡◌, ℕ, zero, suc, ◌+◌, ◌<◌, Bool, true, false, not, ◌&&◌, cond, List, [], ◌∷◌, ◌++◌, map, Option, Some, None, arith, refl, sym, ap, ◌∙◌}
use Rattle.std.proofs.lemmas.Bool.Decides.{nat_tests}
use Rattle.std.specs.Prelude.{◌==◌, nat_lt, option_to_list, slice_index_or}
use Rattle.cmwq_types.specs.declared.instr.WorkId.{WorkId}
use Rattle.cmwq_types.specs.declared.reply.Place.{Place}
use Rattle.cmwq_types.specs.declared.reply.Reply.{Reply}
use Rattle.cmwq_types.specs.declared.reply.WorkRun.{WorkRun}
use Rattle.cmwq_types.specs.declared.reply.Place.TheVariants.{Timer, Inactive, Listed, Deferred}
use Rattle.cmwq_table.specs.Laws.{AtEveryInstruction, reply_to, state_after, waits_for_room}
use Rattle.cmwq_table.specs.State.{State, pending_at}
use Rattle.cmwq_table.specs.Table.{run}
use Rattle.cmwq_table.specs.View.{entries_from}
use Rattle.cmwq_table.specs.declared.state.Pending.{Pending}
use Rattle.cmwq_tell.specs.declared.change.Change.{Change}
use Rattle.cmwq_tell.specs.declared.change.Change.TheVariants as change
use Rattle.cmwq_tell.specs.Hidden.{change_of, hidden, passing, pool_of_place, stamped_from, start_told}
use Rattle.cmwq_tell.specs.Laws.{TellsEachActivation, TellsEachPlace, TellsTheTime, count_changes, is_activation, is_activation_in, is_born, is_born_at, is_listed_where, is_on_list, is_time_but, tells_activating, tells_placing}
use Rattle.cmwq_tell.proofs.Becoming.{table-goes}
use Rattle.cmwq_tell.proofs.BelowLemmas.{run-below}
use Rattle.cmwq_tell.proofs.CountLemmas.{goes-activation, goes-place, weight}
use Rattle.cmwq_tell.proofs.StampLemmas.{count-append, count-hidden, started-none, told_from, told_if, told_of}

-- Where the test is of one work alone.
module _ (test : Change → Bool) (next w : ℕ) (others : (v : ℕ) (o : Option Pending) → (v == w) ≡ false → told_of test next v o ≡ 0) where
  none-later : (o : ℕ) (xs : List (Option Pending)) → w < o → told_from test next o xs ≡ 0
  none-later o [] above = refl
  none-later o (x ∷ xs) above =
      let apart : (o == w) ≡ false = grind (arith, nat_tests) in
      let here : told_of test next o x ≡ 0 = others o x apart in
      let later : told_from test next (o + 1) xs ≡ 0 = none-later (o + 1) xs (omega arith) in
      omega (arith, here, later)

  only-its-own : (o i : ℕ) (xs : List (Option Pending)) → o + i ≡ w → told_from test next o xs ≡ told_of test next w (slice_index_or xs i None)
  only-its-own o i [] at = refl
  only-its-own o zero (x ∷ xs) at =
      let same : o ≡ w = omega (arith, at) in
      let later : told_from test next (o + 1) xs ≡ 0 = none-later (o + 1) xs (omega (arith, at)) in
      let here : told_of test next o x ≡ told_of test next w x = ap (λ (v : ℕ). told_of test next v x) same in
      omega (arith, here, later)
  only-its-own o (suc i) (x ∷ xs) at =
      let apart : (o == w) ≡ false = grind (arith, nat_tests, at) in
      let here : told_of test next o x ≡ 0 = others o x apart in
      let later : told_from test next (o + 1) xs ≡ told_of test next w (slice_index_or xs i None) = only-its-own (o + 1) i xs (omega (arith, at)) in
      omega (arith, here, later)

  -- the hidden changes tell of this work what its pending half adds
  counts-its-own : (s t : State) (r : Reply) → s.next ≡ next → ((now : ℕ) → test (change.Now now) ≡ false) → ((v : WorkId) (run : WorkRun) → test (change.Started v run) ≡ false)
      → count_changes test (hidden s t r) ≡ told_of test next w (pending_at t w)
  counts-its-own s t r is passes starts =
      count-hidden test passes starts s t r
      ∙ ap (λ (n : ℕ). told_from test n 0 t.pending) is
      ∙ only-its-own 0 w t.pending (omega arith)

-- Places.

placing-others : (v w : ℕ) (test : Place → Bool) (next : ℕ) (place : Place) (old born : Bool) → (v == w) ≡ false → told_if (tells_placing w test) v place old born ≡ 0
placing-others v w test next place true born apart = refl
placing-others v w test next place false true apart = refl
placing-others v w test next place false false apart = ap (λ (b : Bool). cond {A = ℕ} (b && test place) 1 0) apart

placing-other : (w : ℕ) (test : Place → Bool) (next v : ℕ) (o : Option Pending) → (v == w) ≡ false → told_of (tells_placing w test) next v o ≡ 0
placing-other w test next v (Some p) apart = placing-others v w test next p.place (nat_lt p.stamp next) (nat_lt p.born next) apart
placing-other w test next v None apart = refl

-- a work whose stamp is old has an old birth, or else this isn't so
placing-if : (w : ℕ) (test : Place → Bool) (place : Place) (old born : Bool) → cond {A = ℕ} old 0 (cond {A = ℕ} (cond {A = Bool} born false true) 1 0) ≡ cond {A = ℕ} (not born) 1 0
    → told_if (tells_placing w test) w place old born ≡ cond {A = ℕ} (not born && test place) 1 0
placing-if w test place true true e = refl
placing-if w test place true false e = absurd cc
placing-if w test place false true e = refl
placing-if w test place false false e =
    let itself : (w == w) ≡ true = grind (arith, nat_tests) in
    ap (λ (b : Bool). cond {A = ℕ} (b && test place) 1 0) itself

placing-own : (w : ℕ) (test : Place → Bool) (next : ℕ) (o : Option Pending) → weight false true next o ≡ cond {A = ℕ} (is_born next o) 1 0
    → told_of (tells_placing w test) next w o ≡ cond {A = ℕ} (is_born_at next test o) 1 0
placing-own w test next (Some p) e = placing-if w test p.place (nat_lt p.stamp next) (nat_lt p.born next) e
placing-own w test next None e = refl

pub tells_each_place : AtEveryInstruction TellsEachPlace
unfolding TellsEachPlace
tells_each_place S valid instrs i = λ w test.
    let s = run S instrs in
    let t = state_after S s i in
    counts-its-own (tells_placing w test) s.next w (placing-other w test s.next) s t (reply_to S s i) refl (λ now. refl) (λ v run. refl)
    ∙ placing-own w test s.next (pending_at t w) (goes-place s t (run-below S instrs) (table-goes S s i) w)

-- Activations.

activating-others : (v w : ℕ) (test : ℕ → Bool) (place : Place) (old born : Bool) → (v == w) ≡ false → told_if (tells_activating w test) v place old born ≡ 0
activating-others v w test place true born apart = refl
activating-others v w test place false false apart = refl
activating-others v w test place false true apart = ap (λ (b : Bool). cond {A = ℕ} (b && test (pool_of_place place)) 1 0) apart

activating-other : (w : ℕ) (test : ℕ → Bool) (next v : ℕ) (o : Option Pending) → (v == w) ≡ false → told_of (tells_activating w test) next v o ≡ 0
activating-other w test next v (Some p) apart = activating-others v w test p.place (nat_lt p.stamp next) (nat_lt p.born next) apart
activating-other w test next v None apart = refl

activating-if : (w : ℕ) (test : ℕ → Bool) (place : Place) (old born is : Bool) → cond {A = ℕ} old 0 (cond {A = ℕ} (cond {A = Bool} born true false) 1 0) ≡ cond {A = ℕ} is 1 0
    → told_if (tells_activating w test) w place old born ≡ cond {A = ℕ} (is && test (pool_of_place place)) 1 0
activating-if w test place true born true e = absurd cc
activating-if w test place true born false e = refl
activating-if w test place false false true e = absurd cc
activating-if w test place false false false e = refl
activating-if w test place false true false e = absurd cc
activating-if w test place false true true e =
    let itself : (w == w) ≡ true = grind (arith, nat_tests) in
    ap (λ (b : Bool). cond {A = ℕ} (b && test (pool_of_place place)) 1 0) itself

swapped : (a b : Bool) → (a && b) ≡ (b && a)
swapped true true = refl
swapped true false = refl
swapped false true = refl
swapped false false = refl

listed-where : (test : ℕ → Bool) (a c : Bool) (place : Place) → ((a && is_on_list place && c) && test (pool_of_place place)) ≡ (a && is_listed_where test place && c)
listed-where test true c (Listed at) = swapped c (test at)
listed-where test true c (Timer due cpu) = refl
listed-where test true c (Inactive at) = refl
listed-where test true c (Deferred at) = refl
listed-where test false c place = refl

activation-none : (test : ℕ → Bool) (o : Option Pending) → is_activation_in test o None ≡ false
activation-none test (Some p) = refl
activation-none test None = refl

activating-own : (w : ℕ) (test : ℕ → Bool) (next : ℕ) (o q : Option Pending) → weight true false next q ≡ cond {A = ℕ} (is_activation o q) 1 0
    → told_of (tells_activating w test) next w q ≡ cond {A = ℕ} (is_activation_in test o q) 1 0
activating-own w test next (Some p) (Some q) e =
    activating-if w test q.place (nat_lt q.stamp next) (nat_lt q.born next) (is_activation (Some p) (Some q)) e
    ∙ ap (λ (b : Bool). cond {A = ℕ} b 1 0) (listed-where test (waits_for_room p.place) (q.born == p.born) q.place)
activating-own w test next None (Some q) e = activating-if w test q.place (nat_lt q.stamp next) (nat_lt q.born next) false e
activating-own w test next o None e = ap (λ (b : Bool). cond {A = ℕ} b 1 0) (sym (activation-none test o))

pub tells_each_activation : AtEveryInstruction TellsEachActivation
unfolding TellsEachActivation
tells_each_activation S valid instrs i = λ w test.
    let s = run S instrs in
    let t = state_after S s i in
    counts-its-own (tells_activating w test) s.next w (activating-other w test s.next) s t (reply_to S s i) refl (λ now. refl) (λ v run. refl)
    ∙ activating-own w test s.next (pending_at s w) (pending_at t w) (goes-activation s t (run-below S instrs) (table-goes S s i) w)

-- Time.

passing-time : (now : ℕ) (same : Bool) → count_changes (λ told. is_time_but now told) (cond same [] (change.Now now ∷ [])) ≡ 0
passing-time now true = refl
passing-time now false =
    let itself : (now == now) ≡ true = grind (arith, nat_tests) in
    ap (λ (b : Bool). cond {A = ℕ} (not b) 1 0 + 0) itself

not-time : (time : ℕ) (w : WorkId) (place : Place) (b : Bool) (rest : ℕ) → rest ≡ 0
    → cond {A = ℕ} (is_time_but time (cond b (change.Activated w (pool_of_place place)) (change.Placed w place))) 1 0 + rest ≡ 0
not-time time w place true rest e = omega (arith, e)
not-time time w place false rest e = omega (arith, e)

no-time : (time next : ℕ) (entries : List (WorkId × Pending)) → count_changes (λ told. is_time_but time told) (map (change_of next) entries) ≡ 0
no-time time next [] = refl
no-time time next (entry ∷ entries) = not-time time entry.0 entry.1.place (nat_lt entry.1.born next) _ (no-time time next entries)

pub tells_the_time : AtEveryInstruction TellsTheTime
unfolding TellsTheTime
tells_the_time S valid instrs i =
    let s = run S instrs in
    let t = state_after S s i in
    let test = λ (told : Change). is_time_but t.time told in
    let entries = stamped_from s.next (entries_from 0 t.pending) in
    let now : count_changes test (passing s.time t.time) ≡ 0 = passing-time t.time (t.time == s.time) in
    let later : count_changes test (map (change_of s.next) entries) ≡ 0 = no-time t.time s.next entries in
    let started = option_to_list (start_told t (reply_to S s i)) in
    let none : count_changes test started ≡ 0 = started-none test (λ w run. refl) t (reply_to S s i) in
    let both : count_changes test (passing s.time t.time ++ started) ≡ count_changes test (passing s.time t.time) + count_changes test started = count-append test (passing s.time t.time) started in
    let sum : count_changes test (hidden s t (reply_to S s i)) ≡ count_changes test (passing s.time t.time ++ started) + count_changes test (map (change_of s.next) entries) = count-append test (passing s.time t.time ++ started) (map (change_of s.next) entries) in
    omega (arith, now, none, both, later, sum)
