-- What an instruction tells of each work that runs: how it begins, what it burns and has left, and how it ends.
use Rattle.std.proofs.Common.{◌≡◌, ℕ, zero, suc, ◌+◌, ◌-◌, ◌<◌, Bool, true, false, ◌&&◌, cond, List, [], ◌∷◌, length, replicate, Option, Some, None, arith, refl, ap, sym, ◌∙◌, subst, inl, inr}
use Rattle.std.proofs.Math.ListN.{length-set}
use Rattle.std.proofs.lemmas.Bool.{cases_eq, cases_lt, eq-eqb, le-ltb, lt-ltb, ne_eqb}
use Rattle.std.proofs.lemmas.List.{get_or-set_other, get_or-set_same, get_or_past, length-replicate}
use Rattle.std.specs.Prelude.{nat_lt, slice_index_or, slice_set, ◌==◌}
use Rattle.cmwq_types.specs.Contents.{ScenarioContents}
use Rattle.cmwq_types.specs.Scenario.{pool_count}
use Rattle.cmwq_types.specs.declared.instr.Instr.{Instr}
use Rattle.cmwq_types.specs.declared.reply.Event.{Event}
use Rattle.cmwq_types.specs.declared.reply.Reply.{Reply}
use Rattle.cmwq_types.specs.declared.reply.Reply.TheVariants as reply
use Rattle.cmwq_table.specs.Counts.{burns}
use Rattle.cmwq_table.specs.Laws.{reply_to, state_after}
use Rattle.cmwq_table.specs.Moves.{one_less, tick}
use Rattle.cmwq_table.specs.Moves as moves
use Rattle.cmwq_table.specs.State.{State, running_at, start}
use Rattle.cmwq_table.specs.Table.{after_all}
use Rattle.cmwq_table.specs.declared.state.Running.{Running}
use Rattle.cmwq_table.specs.Told.{is_end, is_start, tells_event}
use Rattle.cmwq_burning.specs.Burning.{burns_at, burns_before, finishes_work, starts_work}
use Rattle.cmwq_burning.proofs.Settling.{IsSettled, burning-left}
use Rattle.cmwq_burning.proofs.Happening.{Changes, Happens, IsAtEnd, IsAtStart, table-does}

-- The pools are there.

abbrev pub IsInPool : ScenarioContents → Option Running → Type 0
IsInPool S (Some r) = r.pool < pool_count S
IsInPool S None = Unit {0}

-- There is a place for each work, and each one that runs does so in a pool that is there.
pub record RunInPools (S : ScenarioContents) (running : List (Option Running)) : Type 0 where
  pub long : length running ≡ length S.works
  pub pools : (w : ℕ) → IsInPool S (slice_index_or running w None)

running-there : (S : ScenarioContents) (running : List (Option Running)) (w : ℕ) (r : Running) → length running ≡ length S.works → slice_index_or running w None ≡ Some r
    → w < length S.works
running-there S running w r long is =
    elim (cases_lt w (length S.works)) [
      | inl there ↦ there
      | inr past ↦ (let none : slice_index_or running w None ≡ None = get_or_past running w None (omega arith) in absurd (cc (none, is)))
    ]

-- A tick.

burned-length : (test : ℕ → Option Running → Bool) (w : ℕ) (rs : List (Option Running)) → length (moves.burned test w rs) ≡ length rs
burned-length test w [] = refl
burned-length test w (r ∷ rs) = ap suc (burned-length test (w + 1) rs)

burned-at : (test : ℕ → Option Running → Bool) (w : ℕ) (rs : List (Option Running)) (i : ℕ) → test (w + i) None ≡ false
    → slice_index_or (moves.burned test w rs) i None ≡ cond (test (w + i) (slice_index_or rs i None)) (one_less (slice_index_or rs i None)) (slice_index_or rs i None)
burned-at test w [] i fails = ap (λ (b : Bool). cond b (one_less None) None) (sym fails)
burned-at test w (r ∷ rs) zero fails = (let same : w + 0 ≡ w = omega arith in ap (λ (v : ℕ). cond (test v r) (one_less r) r) (sym same))
burned-at test w (r ∷ rs) (suc i) fails =
    let same : w + 1 + i ≡ w + suc i = omega arith in
    subst (λ (v : ℕ). slice_index_or (moves.burned test (w + 1) rs) i None ≡ cond (test v (slice_index_or rs i None)) (one_less (slice_index_or rs i None)) (slice_index_or rs i None)) same
    (burned-at test (w + 1) rs i (ap (λ (v : ℕ). test v None) same ∙ fails))

tick-at : (S : ScenarioContents) (s : State) (w : ℕ) → running_at (tick S s) w ≡ cond (burns S s w (running_at s w)) (one_less (running_at s w)) (running_at s w)
tick-at S s w =
    let same : 0 + w ≡ w = omega arith in
    subst (λ (v : ℕ). running_at (tick S s) w ≡ cond (burns S s v (running_at s w)) (one_less (running_at s w)) (running_at s w)) same (burned-at (burns S s) 0 s.running w refl)

-- Each work that runs stays in its pool.

less-in_pool : (S : ScenarioContents) (r : Option Running) (b : Bool) → IsInPool S r → IsInPool S (cond b (one_less r) r)
less-in_pool S (Some r) true h = h
less-in_pool S None true h = h
less-in_pool S r false h = h

changed-in_pool : (S : ScenarioContents) (w : ℕ) (a b : Option Running) (e : Event) → Changes S w a b e → IsInPool S a → IsInPool S b
changed-in_pool S w a b e (Changes.starts r e1 there at_start begins no_end) h = there
changed-in_pool S w a b e (Changes.goes_on r q e1 same balance no_start no_end) h = omega arith
changed-in_pool S w a b e (Changes.ends r ended) h = tt
changed-in_pool S w a b e (Changes.again r q same ended at_start) h = omega arith

set-in_pool : (S : ScenarioContents) (running : List (Option Running)) (w v : ℕ) (q : Option Running) → w < length running → IsInPool S (slice_index_or running v None)
    → IsInPool S q → IsInPool S (slice_index_or (slice_set running w q) v None)
set-in_pool S running w v q h there here =
    elim (cases_eq v w) [
      | inl same ↦ (let set : slice_index_or (slice_set running w q) v None ≡ q = ap (λ (i : ℕ). slice_index_or (slice_set running w q) i None) same ∙ get_or-set_same running w q None h in
          subst (IsInPool S) (sym set) here)
      | inr other ↦ subst (IsInPool S) (sym (get_or-set_other running w v q None other)) there
    ]

happens-in_pools : (S : ScenarioContents) (s : State) (running : List (Option Running)) (time : ℕ) (r : Reply) → RunInPools S s.running
    → Happens S s running time r → RunInPools S running
happens-in_pools S s running time r ready (Happens.nothing same still told) = subst (RunInPools S) (sym same) ready
happens-in_pools S s running time r ready (Happens.passes settled ticked later told) =
    subst (RunInPools S) (sym ticked) (record {
      long = burned-length (burns S s) 0 s.running ∙ ready.long;
      pools = λ w. subst (IsInPool S) (sym (tick-at S s w)) (less-in_pool S (running_at s w) (burns S s w (running_at s w)) (ready.pools w));
    })
happens-in_pools S s running time r ready (Happens.moves w e q h set still tells_event changes) =
    subst (RunInPools S) (sym set) (record {
      long = length-set s.running w.0 q ∙ ready.long;
      pools = λ v. set-in_pool S s.running w.0 v q (omega (arith, ready.long)) (ready.pools v) (changed-in_pool S w.0 (running_at s w.0) q e changes (ready.pools w.0));
    })

pub table-in_pools : (S : ScenarioContents) (s : State) (i : Instr) → RunInPools S s.running → RunInPools S (state_after S s i).running
table-in_pools S s i ready = happens-in_pools S s (state_after S s i).running (state_after S s i).time (reply_to S s i) ready (table-does S s i)

none-in_pool : (S : ScenarioContents) (n w : ℕ) → IsInPool S (slice_index_or (replicate n None) w None)
none-in_pool S zero w = tt
none-in_pool S (suc n) zero = tt
none-in_pool S (suc n) (suc w) = none-in_pool S n w

start-in_pools : (S : ScenarioContents) → RunInPools S (start S).running
start-in_pools S = record { long = length-replicate (length S.works) None; pools = none-in_pool S (length S.works) }

pub all-in_pools : (S : ScenarioContents) (s : State) (instrs : List Instr) → RunInPools S s.running → RunInPools S (after_all S s instrs).running
all-in_pools S s [] ready = ready
all-in_pools S s (i ∷ instrs) ready = all-in_pools S (state_after S s i) instrs (table-in_pools S s i ready)

pub run-in_pools : (S : ScenarioContents) (instrs : List Instr) → RunInPools S (after_all S (start S) instrs).running
run-in_pools S instrs = all-in_pools S (start S) instrs (start-in_pools S)

-- What is told of one work.

abbrev pub Begins : Option Running → Type 0
Begins (Some r) = IsAtStart r
Begins None = ⊥

abbrev pub Ends : ScenarioContents → ℕ → Option Running → Type 0
Ends S w (Some r) = IsAtEnd S w r
Ends S w None = ⊥

-- what has been burned since, n ticks, and what is left account for the burns in between
abbrev pub GoesOn : ScenarioContents → ℕ → ℕ → Option Running → Option Running → Type 0
GoesOn S w n (Some r) (Some q) = r.left + burns_before S w q.pc ≡ n + q.left + burns_before S w r.pc
GoesOn S w n (Some r) None = ⊥
GoesOn S w n None q = Unit {0}

-- of a work that ran as a, burns for n ticks, and runs as b, with the reply
pub record Told (S : ScenarioContents) (w n : ℕ) (a b : Option Running) (r : Reply) : Type 0 where
  pub starts : starts_work w r ≡ true → Begins b
  pub goes_on : finishes_work w r ≡ false → GoesOn S w n a b
  pub finishes : finishes_work w r ≡ true → Ends S w a

stays-on : (S : ScenarioContents) (w : ℕ) (a : Option Running) → GoesOn S w 0 a a
stays-on S w (Some r) = omega arith
stays-on S w None = tt

told-silent : (S : ScenarioContents) (w n : ℕ) (a b : Option Running) (r : Reply) → (starts_work w r ≡ false) × (finishes_work w r ≡ false) → GoesOn S w n a b → Told S w n a b r
told-silent S w n a b r silent goes_on = record {
  starts = λ e. absurd (cc (silent.0, e));
  goes_on = λ e. goes_on;
  finishes = λ e. absurd (cc (silent.1, e));
}

-- in a tick
burned-on : (S : ScenarioContents) (s : State) (w : ℕ) (a : Option Running) → IsSettled S s → RunInPools S s.running → running_at s w ≡ a → (b : Bool) → burns S s w a ≡ b
    → GoesOn S w (cond b 1 0) a (cond b (one_less a) a)
burned-on S s w (Some r) settled ready is true burning =
    let in_pool : r.pool < pool_count S = subst (IsInPool S) is (ready.pools w) in
    let some : 0 < r.left = burning-left S s w r settled (running-there S s.running w r ready.long is) is in_pool burning in
    less-left r.left (burns_before S w r.pc) some
  where
    less-left : (left before : ℕ) → 0 < left → left + before ≡ 1 + (left - 1) + before
    less-left left before some = omega arith
burned-on S s w (Some r) settled ready is false burning = stays-on S w (Some r)
burned-on S s w None settled ready is b burning = tt

none-passed : (left behind later before : ℕ) → left + behind ≡ later + before → left + behind ≡ 0 + later + before
none-passed left behind later before e = omega arith

-- of the work that moves
told-moved : (S : ScenarioContents) (w : ℕ) (a b : Option Running) (e : Event) (r : Reply) → (starts_work w r ≡ is_start e) → (finishes_work w r ≡ is_end e) → Changes S w a b e
    → Told S w 0 a b r
told-moved S w a b e r start_is end_is (Changes.starts q e1 there at_start begins no_end) =
    record { starts = λ told. at_start; goes_on = λ told. tt; finishes = λ told. absurd (cc) }
told-moved S w a b e r start_is end_is (Changes.goes_on q p e1 same balance no_start no_end) =
    record { starts = λ told. absurd (cc); goes_on = λ told. none-passed q.left (burns_before S w p.pc) p.left (burns_before S w q.pc) balance; finishes = λ told. absurd (cc) }
told-moved S w a b e r start_is end_is (Changes.ends q ended) =
    record { starts = λ told. absurd (cc); goes_on = λ told. absurd (cc); finishes = λ told. ended }
told-moved S w a b e r start_is end_is (Changes.again q p same ended at_start) =
    record { starts = λ told. at_start; goes_on = λ told. absurd (cc); finishes = λ told. ended }

and-holds : (b c : Bool) → c ≡ true → (b && c) ≡ b
and-holds true c e = e
and-holds false c e = refl

and-fails : (b c : Bool) → c ≡ false → (b && c) ≡ false
and-fails true c e = e
and-fails false c e = refl

none-burned : (earlier later : ℕ) (b : Bool) → later ≡ earlier → cond {A = ℕ} (nat_lt earlier later && b) 1 0 ≡ 0
none-burned earlier later b e = ap (λ (c : Bool). cond {A = ℕ} (c && b) 1 0) (le-ltb earlier later (omega arith))

some-burned : (earlier later : ℕ) (b : Bool) → later ≡ earlier + 1 → cond {A = ℕ} (nat_lt earlier later && b) 1 0 ≡ cond {A = ℕ} b 1 0
some-burned earlier later b e = ap (λ (c : Bool). cond {A = ℕ} (c && b) 1 0) (lt-ltb earlier later (omega arith))

happens-told : (S : ScenarioContents) (s : State) (running : List (Option Running)) (time : ℕ) (r : Reply) (w : ℕ) → RunInPools S s.running → Happens S s running time r
    → Told S w (cond (nat_lt s.time time && burns S s w (running_at s w)) 1 0) (running_at s w) (slice_index_or running w None) r
happens-told S s running time r w ready (Happens.nothing same still silent) =
    let none : cond {A = ℕ} (nat_lt s.time time && burns S s w (running_at s w)) 1 0 ≡ 0 = none-burned s.time time (burns S s w (running_at s w)) still in
    told-silent S w (cond (nat_lt s.time time && burns S s w (running_at s w)) 1 0) (running_at s w) (slice_index_or running w None) r (silent w)
    (subst (λ (n : ℕ). GoesOn S w n (running_at s w) (slice_index_or running w None)) (sym none)
    (subst (λ (rs : List (Option Running)). GoesOn S w 0 (running_at s w) (slice_index_or rs w None)) (sym same) (stays-on S w (running_at s w))))
happens-told S s running time r w ready (Happens.passes settled ticked later silent) =
    let burning = burns S s w (running_at s w) in
    let one : cond {A = ℕ} (nat_lt s.time time && burning) 1 0 ≡ cond {A = ℕ} burning 1 0 = some-burned s.time time burning later in
    let at : slice_index_or running w None ≡ cond burning (one_less (running_at s w)) (running_at s w) = ap (λ (rs : List (Option Running)). slice_index_or rs w None) ticked ∙ tick-at S s w in
    told-silent S w (cond (nat_lt s.time time && burning) 1 0) (running_at s w) (slice_index_or running w None) r (silent w)
    (subst (λ (n : ℕ). GoesOn S w n (running_at s w) (slice_index_or running w None)) (sym one)
    (subst (λ (o : Option Running). GoesOn S w (cond burning 1 0) (running_at s w) o) (sym at) (burned-on S s w (running_at s w) settled ready refl burning refl)))
happens-told S s running time r w ready (Happens.moves v e q h set still told changes) =
    let none : cond {A = ℕ} (nat_lt s.time time && burns S s w (running_at s w)) 1 0 ≡ 0 = none-burned s.time time (burns S s w (running_at s w)) still in
    subst (λ (n : ℕ). Told S w n (running_at s w) (slice_index_or running w None) r) (sym none)
    (subst (λ (rs : List (Option Running)). Told S w 0 (running_at s w) (slice_index_or rs w None) r) (sym set)
    (subst (λ (x : Reply). Told S w 0 (running_at s w) (slice_index_or (slice_set s.running v.0 q) w None) x) (sym told) (elim (cases_eq v.0 w) [
      | inl same ↦ subst (λ (u : ℕ). Told S u 0 (running_at s u) (slice_index_or (slice_set s.running v.0 q) u None) (reply.Event v e)) same
          (subst (λ (o : Option Running). Told S v.0 0 (running_at s v.0) o (reply.Event v e)) (sym (get_or-set_same s.running v.0 q None (omega (arith, ready.long))))
          (told-moved S v.0 (running_at s v.0) q e (reply.Event v e) (and-holds (is_start e) (v.0 == v.0) (eq-eqb v.0 v.0 refl)) (and-holds (is_end e) (v.0 == v.0) (eq-eqb v.0 v.0 refl)) changes))
      | inr other ↦ told-silent S w 0 (running_at s w) (slice_index_or (slice_set s.running v.0 q) w None) (reply.Event v e)
          (and-fails (is_start e) (v.0 == w) (ne_eqb v.0 w other), and-fails (is_end e) (v.0 == w) (ne_eqb v.0 w other))
          (subst (GoesOn S w 0 (running_at s w)) (sym (get_or-set_other s.running v.0 w q None (λ same. other (sym same)))) (stays-on S w (running_at s w)))
    ])))

pub table-told : (S : ScenarioContents) (s : State) (i : Instr) (w : ℕ) → RunInPools S s.running
    → Told S w (cond (burns_at S s i w) 1 0) (running_at s w) (running_at (state_after S s i) w) (reply_to S s i)
table-told S s i w ready = happens-told S s (state_after S s i).running (state_after S s i).time (reply_to S s i) w ready (table-does S s i)
