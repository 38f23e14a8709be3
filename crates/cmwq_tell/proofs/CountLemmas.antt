-- How many lines tell an activation, a place, or that time passed.
use Rattle.std.proofs.Common.{◌≡◌, ℕ, zero, suc, ◌+◌, ◌<◌, ◌≤◌, Bool, true, false, not, ◌&&◌, cond, List, [], ◌∷◌, ◌++◌, length, map, Option, Some, None, arith, refl, sym, ap, ◌∙◌, subst, inl, inr, ◌⊎◌}
use Rattle.std.proofs.lemmas.Bool.Decides.{nat_tests}
use Rattle.std.specs.Prelude.{◌==◌, nat_lt, option_to_list, slice_index_or, slice_set}
use Rattle.cmwq_types.specs.Contents.{ScenarioContents}
use Rattle.cmwq_types.specs.First.{count_below}
use Rattle.cmwq_types.specs.declared.instr.WorkId.{WorkId}
use Rattle.cmwq_types.specs.declared.reply.Place.{Place}
use Rattle.cmwq_types.specs.declared.reply.Place.TheVariants.{Timer, Inactive, Listed, Deferred}
use Rattle.cmwq_table.specs.Laws.{AtEveryInstruction, reply_to, state_after, waits_for_room}
use Rattle.cmwq_table.specs.State.{State, pending_at}
use Rattle.cmwq_table.specs.View.{entries_from}
use Rattle.cmwq_table.specs.declared.state.Pending.{Pending}
use Rattle.cmwq_table.specs.Table.{run, table}
use Rattle.cmwq_burning.proofs.Happening.{Happens, table-does}
use Rattle.cmwq_types.specs.declared.reply.Reply.{Reply}
use Rattle.cmwq_types.specs.declared.reply.WorkRun.{WorkRun}
use Rattle.cmwq_table.specs.declared.state.Running.{Running}
use Rattle.cmwq_tell.specs.declared.change.Change.{Change}
use Rattle.cmwq_tell.specs.declared.change.Change.TheVariants as change
use Rattle.cmwq_tell.specs.Hidden.{change_of, hidden, passing, pool_of_place, stamped_from, start_told}
use Rattle.cmwq_tell.specs.Laws.{TellsActivations, TellsPlaces, TellsTicks, count_changes, is_activation, is_born, is_on_list, tells_activation, tells_place, tells_tick}
use Rattle.cmwq_tell.proofs.Becoming.{Becomes, Goes, set_cases, table-goes}
use Rattle.cmwq_tell.proofs.BelowLemmas.{AllBelow, IsBelow, run-below}
use Rattle.cmwq_tell.proofs.StampLemmas.{count-append, count-hidden, count-stamped, started-none, told_from, told_of}

-- What one work adds: nothing where its stamp is old, and else by whether its birth is.
abbrev pub weight : Bool → Bool → ℕ → Option Pending → ℕ
weight a b next (Some p) = cond (nat_lt p.stamp next) 0 (cond (cond (nat_lt p.born next) a b) 1 0)
weight a b next None = 0

abbrev total : (Option Pending → ℕ) → List (Option Pending) → ℕ
total h [] = 0
total h (x ∷ xs) = h x + total h xs

module _ (test : Change → Bool) (a b : Bool) (activates : (w : WorkId) (pool : ℕ) → test (change.Activated w pool) ≡ a) (places : (w : WorkId) (place : Place) → test (change.Placed w place) ≡ b) (next : ℕ) where
  test-if : (c : Bool) (w : WorkId) (place : Place) → test (cond c (change.Activated w (pool_of_place place)) (change.Placed w place)) ≡ cond c a b
  test-if true w place = activates w (pool_of_place place)
  test-if false w place = places w place

  told-weighs : (w : ℕ) (o : Option Pending) → told_of test next w o ≡ weight a b next o
  told-weighs w (Some p) = ap (λ (c : Bool). cond {A = ℕ} (nat_lt p.stamp next) 0 (cond c 1 0)) (test-if (nat_lt p.born next) (record { 0 = w }) p.place)
  told-weighs w None = refl

  told-total : (w : ℕ) (xs : List (Option Pending)) → told_from test next w xs ≡ total (weight a b next) xs
  told-total w [] = refl
  told-total w (x ∷ xs) =
      let here : told_of test next w x ≡ weight a b next x = told-weighs w x in
      let later : told_from test next (w + 1) xs ≡ total (weight a b next) xs = told-total (w + 1) xs in
      omega (arith, here, later)

-- the count from the front
count-front : (g : ℕ → Bool) (n : ℕ) → count_below g (suc n) ≡ cond (g 0) 1 0 + count_below (λ w. g (suc w)) n
count-front g zero = omega arith
count-front g (suc n) = let before : count_below g (suc n) ≡ cond (g 0) 1 0 + count_below (λ w. g (suc w)) n = count-front g n in omega (arith, before)

total-counts : (h : Option Pending → ℕ) (g : ℕ → Bool) (xs : List (Option Pending)) → ((w : ℕ) → h (slice_index_or xs w None) ≡ cond (g w) 1 0) → total h xs ≡ count_below g (length xs)
total-counts h g [] each = refl
total-counts h g (x ∷ xs) each =
    let here : h x ≡ cond (g 0) 1 0 = each 0 in
    let later : total h xs ≡ count_below (λ w. g (suc w)) (length xs) = total-counts h (λ w. g (suc w)) xs (λ w. each (suc w)) in
    let front : count_below g (suc (length xs)) ≡ cond (g 0) 1 0 + count_below (λ w. g (suc w)) (length xs) = count-front g (length xs) in
    omega (arith, here, later, front)

-- One work.

cond-true : {A : Type 0} (b : Bool) (x y : A) → b ≡ true → cond b x y ≡ x
cond-true true x y e = refl
cond-true false x y e = cc

cond-false : {A : Type 0} (b : Bool) (x y : A) → b ≡ false → cond b x y ≡ y
cond-false true x y e = cc
cond-false false x y e = refl

old : (a b : Bool) (next : ℕ) (p : Pending) → p.stamp < next → weight a b next (Some p) ≡ 0
old a b next p h =
    let below : nat_lt p.stamp next ≡ true = grind (arith, nat_tests) in
    cond-true (nat_lt p.stamp next) 0 (cond (cond (nat_lt p.born next) a b) 1 0) below

new : (a b : Bool) (next : ℕ) (p : Pending) → next ≤ p.stamp → weight a b next (Some p) ≡ cond (cond (nat_lt p.born next) a b) 1 0
new a b next p h =
    let above : nat_lt p.stamp next ≡ false = grind (arith, nat_tests) in
    cond-false (nat_lt p.stamp next) 0 (cond (cond (nat_lt p.born next) a b) 1 0) above

newborn : (a b : Bool) (next : ℕ) (p : Pending) → next ≤ p.stamp → next ≤ p.born → weight a b next (Some p) ≡ cond b 1 0
newborn a b next p h k =
    let above : nat_lt p.born next ≡ false = grind (arith, nat_tests) in
    new a b next p h ∙ ap (λ (c : Bool). cond c 1 0) (cond-false (nat_lt p.born next) a b above)

moved-up : (a b : Bool) (next : ℕ) (p : Pending) → next ≤ p.stamp → p.born < next → weight a b next (Some p) ≡ cond a 1 0
moved-up a b next p h k =
    let below : nat_lt p.born next ≡ true = grind (arith, nat_tests) in
    new a b next p h ∙ ap (λ (c : Bool). cond c 1 0) (cond-true (nat_lt p.born next) a b below)

and-false : (a b : Bool) → b ≡ false → (a && b) ≡ false
and-false true b e = e
and-false false b e = refl

not-both : (place : Place) (b : Bool) → (waits_for_room place && is_on_list place && b) ≡ false
not-both (Inactive pool) b = refl
not-both (Timer due cpu) b = refl
not-both (Listed pool) b = refl
not-both (Deferred pool) b = refl

none : {b : Bool} {n : ℕ} → n ≡ 0 → b ≡ false → n ≡ cond b 1 0
none {b} zero-is fails = zero-is ∙ sym (ap (λ (c : Bool). cond c 1 0) fails)

one : {b : Bool} {n : ℕ} → n ≡ 1 → b ≡ true → n ≡ cond b 1 0
one {b} one-is passes = one-is ∙ sym (ap (λ (c : Bool). cond c 1 0) passes)

fresh-not : (next : ℕ) (o : Option Pending) (q : Pending) → IsBelow next o → next ≤ q.born → is_activation o (Some q) ≡ false
fresh-not next None q below h = refl
fresh-not next (Some p) q below h =
    let born : p.born < next = below.0 in
    let apart : (q.born == p.born) ≡ false = grind (arith, nat_tests) in
    and-false (waits_for_room p.place && is_on_list q.place) (q.born == p.born) apart

waits : (place : Place) (pool : ℕ) → place ≡ Inactive pool → waits_for_room place ≡ true
waits (Inactive at) pool e = refl
waits (Timer due cpu) pool e = cc
waits (Listed at) pool e = cc
waits (Deferred at) pool e = cc

all-three : (a : Bool) (b : Bool) → a ≡ true → b ≡ true → (a && true && b) ≡ true
all-three true b p q = q
all-three false b p q = cc

gone-not : (o : Option Pending) → is_activation o None ≡ false
gone-not (Some p) = refl
gone-not None = refl

stays-activation : (next : ℕ) (o : Option Pending) → IsBelow next o → weight true false next o ≡ cond (is_activation o o) 1 0
stays-activation next (Some p) below = none (old true false next p below.1) (not-both p.place (p.born == p.born))
stays-activation next None below = refl

activation : (a b : ℕ) (o q : Option Pending) → IsBelow a o → Becomes a b o q → weight true false a q ≡ cond (is_activation o q) 1 0
activation a b o q below (Becomes.stays _) = stays-activation a o below
activation a b o q below (Becomes.gone _) = none refl (gone-not o)
activation a b o q below (Becomes.fresh _ p x y z w) = none (newborn true false a p z x) (fresh-not a o p below x)
activation a b o q below (Becomes.activated p stamp pool is x y) =
    let same : (p.born == p.born) ≡ true = grind (arith, nat_tests) in
    one (moved-up true false a (record { born = p.born; stamp = stamp; place = Listed pool }) x below.0) (all-three (waits_for_room p.place) (p.born == p.born) (waits p.place pool is) same)

stays-place : (next : ℕ) (o : Option Pending) → IsBelow next o → weight false true next o ≡ cond (is_born next o) 1 0
stays-place next (Some p) below =
    let born : p.born < next = below.0 in
    let fails : not (nat_lt p.born next) ≡ false = grind (arith, nat_tests) in
    none (old false true next p below.1) fails
stays-place next None below = refl

placing : (a b : ℕ) (o q : Option Pending) → IsBelow a o → Becomes a b o q → weight false true a q ≡ cond (is_born a q) 1 0
placing a b o q below (Becomes.stays _) = stays-place a o below
placing a b o q below (Becomes.gone _) = refl
placing a b o q below (Becomes.fresh _ p x y z w) =
    let passes : not (nat_lt p.born a) ≡ true = grind (arith, nat_tests) in
    one (newborn false true a p z x) passes
placing a b o q below (Becomes.activated p stamp pool is x y) =
    let born : p.born < a = below.0 in
    let fails : not (nat_lt p.born a) ≡ false = grind (arith, nat_tests) in
    none (moved-up false true a (record { born = p.born; stamp = stamp; place = Listed pool }) x below.0) fails

-- a deferred work has its old stamp, and isn't listed
abbrev pub Tells : (Option Pending → ℕ) → (Option Pending → Option Pending → Bool) → State → State → ℕ → Type 0
Tells h g s t w = h (pending_at t w) ≡ cond (g (pending_at s w) (pending_at t w)) 1 0

deferred-tells : (h : Option Pending → ℕ) (g : Option Pending → Option Pending → Bool) (s t : State) (w v : ℕ) (p q : Pending) → t.pending ≡ slice_set s.pending w (Some q) → pending_at s w ≡ Some p
    → ((u : ℕ) → h (pending_at s u) ≡ cond (g (pending_at s u) (pending_at s u)) 1 0) → h (Some q) ≡ cond (g (Some p) (Some q)) 1 0 → Tells h g s t v
deferred-tells h g s t w v p q set is each here = at (set_cases s.pending w v (Some q)) where
  at : (slice_index_or (slice_set s.pending w (Some q)) v None ≡ pending_at s v) ⊎ ((v ≡ w) × (slice_index_or (slice_set s.pending w (Some q)) v None ≡ Some q)) → Tells h g s t v
  at (inl same) =
      subst (λ (o : Option Pending). h o ≡ cond (g (pending_at s v) o) 1 0) (sym (ap (λ (pending : List (Option Pending)). slice_index_or pending v None) set ∙ same)) (each v)
  at (inr there) =
      let was : pending_at s v ≡ Some p = ap (λ (u : ℕ). pending_at s u) there.0 ∙ is in
      subst (λ (o : Option Pending). h o ≡ cond (g (pending_at s v) o) 1 0) (sym (ap (λ (pending : List (Option Pending)). slice_index_or pending v None) set ∙ there.1))
      (subst (λ (o : Option Pending). h (Some q) ≡ cond (g o (Some q)) 1 0) (sym was) here)

deferred-not : (place : Place) (pool : ℕ) (b : Bool) → (waits_for_room place && is_on_list (Deferred pool) && b) ≡ false
deferred-not (Inactive at) pool b = refl
deferred-not (Timer due cpu) pool b = refl
deferred-not (Listed at) pool b = refl
deferred-not (Deferred at) pool b = refl

pub goes-activation : (s t : State) → AllBelow s → Goes s t → (w : ℕ) → Tells (weight true false s.next) is_activation s t w
goes-activation s t below (inl moves) w = activation s.next t.next (pending_at s w) (pending_at t w) (below w) (moves.works w)
goes-activation s t below (inr d) w =
    let was : IsBelow s.next (Some d.p) = subst (λ (o : Option Pending). IsBelow s.next o) d.was (below d.w) in
    let q : Pending = record d.p { place = Deferred d.pool } in
    deferred-tells (weight true false s.next) is_activation s t d.w w d.p q d.pending d.was (λ u. stays-activation s.next (pending_at s u) (below u))
    (none (old true false s.next q was.1) (deferred-not d.p.place d.pool (d.p.born == d.p.born)))

pub goes-place : (s t : State) → AllBelow s → Goes s t → (w : ℕ) → Tells (weight false true s.next) (λ before now. is_born s.next now) s t w
goes-place s t below (inl moves) w = placing s.next t.next (pending_at s w) (pending_at t w) (below w) (moves.works w)
goes-place s t below (inr d) w =
    let was : IsBelow s.next (Some d.p) = subst (λ (o : Option Pending). IsBelow s.next o) d.was (below d.w) in
    let q : Pending = record d.p { place = Deferred d.pool } in
    deferred-tells (weight false true s.next) (λ before now. is_born s.next now) s t d.w w d.p q d.pending d.was (λ u. stays-place s.next (pending_at s u) (below u)) (stays-place s.next (Some q) (was.0, was.1))

hidden-counts : (test : Change → Bool) (a b : Bool) → ((w : WorkId) (pool : ℕ) → test (change.Activated w pool) ≡ a) → ((w : WorkId) (place : Place) → test (change.Placed w place) ≡ b) → ((now : ℕ) → test (change.Now now) ≡ false) → ((w : WorkId) (run : WorkRun) → test (change.Started w run) ≡ false)
    → (s t : State) (r : Reply) (g : ℕ → Bool) → ((w : ℕ) → weight a b s.next (pending_at t w) ≡ cond (g w) 1 0) → count_changes test (hidden s t r) ≡ count_below g (length t.pending)
hidden-counts test a b activates places passes starts s t r g each =
    count-hidden test passes starts s t r ∙ told-total test a b activates places s.next 0 t.pending ∙ total-counts (weight a b s.next) g t.pending each

pub tells_activations : AtEveryInstruction TellsActivations
unfolding TellsActivations
tells_activations S valid instrs i =
    let s = run S instrs in
    let t = state_after S s i in
    hidden-counts tells_activation true false (λ w pool. refl) (λ w place. refl) (λ now. refl) (λ w run. refl) s t (reply_to S s i) (λ w. is_activation (pending_at s w) (pending_at t w)) (goes-activation s t (run-below S instrs) (table-goes S s i))

pub tells_places : AtEveryInstruction TellsPlaces
unfolding TellsPlaces
tells_places S valid instrs i =
    let s = run S instrs in
    let t = state_after S s i in
    hidden-counts tells_place false true (λ w pool. refl) (λ w place. refl) (λ now. refl) (λ w run. refl) s t (reply_to S s i) (λ w. is_born s.next (pending_at t w)) (goes-place s t (run-below S instrs) (table-goes S s i))

-- Time.

time-goes : (S : ScenarioContents) (s : State) (running : List (Option Running)) (time : ℕ) (r : Reply) → Happens S s running time r → (time ≡ s.time) ⊎ (time ≡ s.time + 1)
time-goes S s running time r (Happens.nothing runs still silent) = inl still
time-goes S s running time r (Happens.passes settled runs on silent) = inr on
time-goes S s running time r (Happens.moves w e q there runs still told changes) = inl still

passing-counts : (before now : ℕ) → (now ≡ before) ⊎ (now ≡ before + 1) → count_changes tells_tick (passing before now) + before ≡ now
passing-counts before now (inl e) =
    let same : (now == before) ≡ true = grind (arith, nat_tests) in
    let counts : count_changes tells_tick (passing before now) ≡ 0 = ap (λ (c : Bool). count_changes tells_tick (cond c [] (change.Now now ∷ []))) same in
    omega (arith, counts, e)
passing-counts before now (inr e) =
    let apart : (now == before) ≡ false = grind (arith, nat_tests) in
    let counts : count_changes tells_tick (passing before now) ≡ 1 = ap (λ (c : Bool). count_changes tells_tick (cond c [] (change.Now now ∷ []))) apart in
    omega (arith, counts, e)

nothing-if : (c d : Bool) → cond {A = ℕ} c 0 (cond {A = ℕ} (cond {A = Bool} d false false) 1 0) ≡ 0
nothing-if true d = refl
nothing-if false true = refl
nothing-if false false = refl

weighs-nothing : (next : ℕ) (o : Option Pending) → weight false false next o ≡ 0
weighs-nothing next (Some p) = nothing-if (nat_lt p.stamp next) (nat_lt p.born next)
weighs-nothing next None = refl

none-below : (n : ℕ) → count_below (λ w. false) n ≡ 0
none-below zero = refl
none-below (suc n) = let before : count_below (λ w. false) n ≡ 0 = none-below n in omega (arith, before)

pub tells_ticks : AtEveryInstruction TellsTicks
unfolding TellsTicks
tells_ticks S valid instrs i =
    let s = run S instrs in
    let t = state_after S s i in
    let stamped = map (change_of s.next) (stamped_from s.next (entries_from 0 t.pending)) in
    let passes : count_changes tells_tick (passing s.time t.time) + s.time ≡ t.time = passing-counts s.time t.time (time-goes S s t.running t.time (table S s i).1 (table-does S s i)) in
    let started = option_to_list (start_told t (reply_to S s i)) in
    let none : count_changes tells_tick started ≡ 0 = started-none tells_tick (λ w run. refl) t (reply_to S s i) in
    let both : count_changes tells_tick (passing s.time t.time ++ started) ≡ count_changes tells_tick (passing s.time t.time) + count_changes tells_tick started = count-append tells_tick (passing s.time t.time) started in
    let sum : count_changes tells_tick (hidden s t (reply_to S s i)) ≡ count_changes tells_tick (passing s.time t.time ++ started) + count_changes tells_tick stamped = count-append tells_tick (passing s.time t.time ++ started) stamped in
    let counts : count_changes tells_tick stamped ≡ count_below (λ w. false) (length t.pending) =
    count-stamped tells_tick s.next 0 t.pending ∙ told-total tells_tick false false (λ w pool. refl) (λ w place. refl) s.next 0 t.pending ∙ total-counts (weight false false s.next) (λ w. false) t.pending (λ w. weighs-nothing s.next (pending_at t w)) in
    let nothing : count_below (λ w. false) (length t.pending) ≡ 0 = none-below (length t.pending) in
    omega (arith, passes, none, both, sum, counts, nothing)
