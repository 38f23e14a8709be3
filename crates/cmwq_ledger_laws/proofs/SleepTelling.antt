-- What an instruction tells of the sleep of each work that runs.
use Rattle.std.proofs.Common.{◌≡◌, ℕ, ◌+◌, ◌-◌, ◌<◌, Bool, true, false, not, ◌&&◌, cond, List, length, Option, Some, None, arith, refl, ap, sym, ◌∙◌, subst, inl, inr}
use Rattle.std.proofs.lemmas.Bool.{and_parts, cases_eq, cases_lt, eq-eqb, eqb-true, le-ltb, lt-ltb, ne_eqb}
use Rattle.std.proofs.lemmas.List.{get_or-set_other, get_or-set_same, get_or_past}
use Rattle.std.specs.Prelude.{nat_lt, slice_index_or, slice_set, ◌==◌}
use Rattle.cmwq_types.specs.Contents.{ScenarioContents}
use Rattle.cmwq_types.specs.Scenario.{pool_count}
use Rattle.cmwq_types.specs.declared.instr.Instr.{Instr}
use Rattle.cmwq_types.specs.declared.reply.Event.{Event}
use Rattle.cmwq_types.specs.declared.reply.Mode.{Mode}
use Rattle.cmwq_types.specs.declared.reply.Mode.TheVariants.{Runnable, Asleep}
use Rattle.cmwq_types.specs.declared.reply.Reply.{Reply}
use Rattle.cmwq_types.specs.declared.reply.Reply.TheVariants as reply
use Rattle.cmwq_table.specs.Counts.{burns, first_runnable, is_runnable, is_some_work, runs}
use Rattle.cmwq_table.specs.Laws.{reply_to, state_after}
use Rattle.cmwq_table.specs.Moves.{one_less}
use Rattle.cmwq_table.specs.State.{State, is_unbound, running_at}
use Rattle.cmwq_table.specs.declared.state.Running.{Running}
use Rattle.cmwq_table.specs.Told.{is_end, is_start}
use Rattle.cmwq_burning.specs.Burning.{finishes_work, starts_work}
use Rattle.cmwq_burning.proofs.Settling.{IsSettled}
use Rattle.cmwq_burning.proofs.Telling.{IsInPool, RunInPools}
use Rattle.cmwq_ledger_laws.specs.Sleeps.{sleeps_before}
use Rattle.cmwq_ledger_laws.proofs.Halves.{both-false, both-true}
use Rattle.cmwq_table.proofs.Choosing.{IfThere}
use Rattle.cmwq_ledger_laws.proofs.Sleeping.{IsAwake, Lets, Rests, runnable-awake, settled-sleep, still, table-lets}
use Rattle.cmwq_ledger_laws.proofs.Ticking.{tick-at}

-- Who burns is awake.

awake-here : (s : State) (o : Option ℕ) (w : ℕ) → IfThere (IsAwake s) o → is_some_work o w ≡ true → IsAwake s w
awake-here s (Some v) w awake e = subst (IsAwake s) (eqb-true v w e) awake
awake-here s None w awake e = cc

burning-if : (S : ScenarioContents) (s : State) (w : ℕ) (r : Running) (other b : Bool) → running_at s w ≡ Some r
    → cond b (is_runnable r.mode) (is_some_work (first_runnable S s r.pool) w && other) ≡ true → is_runnable r.mode ≡ true
burning-if S s w r other true is e = e
burning-if S s w r other false is e =
    let here : runs (λ q. is_runnable q.mode) (running_at s w) ≡ true =
    awake-here s (first_runnable S s r.pool) w (runnable-awake S s r.pool) (and_parts (is_some_work (first_runnable S s r.pool) w) other e).0 in
    ap (runs (λ q. is_runnable q.mode)) (sym is) ∙ here

pub burning-awake : (S : ScenarioContents) (s : State) (w : ℕ) (r : Running) → running_at s w ≡ Some r → burns S s w (Some r) ≡ true → is_runnable r.mode ≡ true
burning-awake S s w r is e = burning-if S s w r _ (is_unbound S r.pool) is e

-- What is told of one work.

abbrev pub is_asleep : Option Running → Bool
is_asleep (Some r) = not (is_runnable r.mode)
is_asleep None = false

-- it is awake, at the beginning of its body
abbrev pub BeginsAwake : Option Running → Type 0
BeginsAwake (Some r) = (r.mode ≡ Runnable) × (r.pc ≡ 0)
BeginsAwake None = ⊥

-- it is to sleep no more
abbrev pub IsUp : ℕ → Option Running → Type 0
IsUp time (Some r) = still time r.mode ≡ 0
IsUp time None = ⊥

-- what has been slept since, n ticks, and what is still to be slept account for the sleeps in between
abbrev pub SleepsOn : ScenarioContents → ℕ → ℕ → ℕ → ℕ → Option Running → Option Running → Type 0
SleepsOn S w n time later (Some r) (Some q) = still time r.mode + sleeps_before S w q.pc ≡ n + still later q.mode + sleeps_before S w r.pc
SleepsOn S w n time later (Some r) None = ⊥
SleepsOn S w n time later None q = Unit {0}

-- of a work that ran as a, sleeps for n ticks, and runs as b, with the reply
pub record SleepTold (S : ScenarioContents) (w n time later : ℕ) (a b : Option Running) (r : Reply) : Type 0 where
  pub starts : starts_work w r ≡ true → BeginsAwake b
  pub goes_on : finishes_work w r ≡ false → SleepsOn S w n time later a b
  pub finishes : finishes_work w r ≡ true → IsUp time a

stays-on : (S : ScenarioContents) (w time later : ℕ) (a : Option Running) → later ≡ time → SleepsOn S w 0 time later a a
stays-on S w time later (Some r) e = subst (λ (n : ℕ). still time r.mode + sleeps_before S w r.pc ≡ 0 + still n r.mode + sleeps_before S w r.pc) (sym e) (omega arith)
stays-on S w time later None e = tt

told-silent : (S : ScenarioContents) (w n time later : ℕ) (a b : Option Running) (r : Reply) → (starts_work w r ≡ false) × (finishes_work w r ≡ false) → SleepsOn S w n time later a b
    → SleepTold S w n time later a b r
told-silent S w n time later a b r silent goes_on = record {
  starts = λ e. absurd (cc (silent.0, e));
  goes_on = λ e. goes_on;
  finishes = λ e. absurd (cc (silent.1, e));
}

-- in a tick

ticked-sleep : (time until before : ℕ) → time < until → until - time + before ≡ 1 + (until - (time + 1)) + before
ticked-sleep time until before more = omega arith

mode-sleeps : (S : ScenarioContents) (w time before : ℕ) (mode : Mode) → ((until : ℕ) → mode ≡ Asleep until → time < until)
    → still time mode + before ≡ cond (not (is_runnable mode)) 1 0 + still (time + 1) mode + before
mode-sleeps S w time before Runnable sleeps = omega arith
mode-sleeps S w time before (Asleep until) sleeps = ticked-sleep time until before (sleeps until refl)

slept-on : (S : ScenarioContents) (s : State) (w : ℕ) (a : Option Running) → IsSettled S s → RunInPools S s.running → running_at s w ≡ a → (b : Bool)
    → SleepsOn S w (cond (is_asleep a) 1 0) s.time (s.time + 1) a (cond b (one_less a) a)
slept-on S s w (Some r) settled ready is b =
    let in_pool : r.pool < pool_count S = subst (IsInPool S) is (ready.pools w) in
    let there : w < length S.works = here (running_at s w) r is refl in
    let same : still s.time r.mode + sleeps_before S w r.pc ≡ cond (not (is_runnable r.mode)) 1 0 + still (s.time + 1) r.mode + sleeps_before S w r.pc =
    mode-sleeps S w s.time (sleeps_before S w r.pc) r.mode (λ until asleep. settled-sleep S s w until r settled there in_pool is asleep) in
    same-if b same
  where
    here : (o : Option Running) (q : Running) → o ≡ Some q → running_at s w ≡ o → w < length S.works
    here o q some at =
        elim (cases_lt w (length S.works)) [
          | inl lower ↦ lower
          | inr past ↦ (let none : running_at s w ≡ None = get_or_past s.running w None (omega (arith, ready.long)) in absurd (cc (none, some, at)))
        ]

    same-if : (b : Bool) → still s.time r.mode + sleeps_before S w r.pc ≡ cond (not (is_runnable r.mode)) 1 0 + still (s.time + 1) r.mode + sleeps_before S w r.pc
        → SleepsOn S w (cond (not (is_runnable r.mode)) 1 0) s.time (s.time + 1) (Some r) (cond b (one_less (Some r)) (Some r))
    same-if true same = same
    same-if false same = same
slept-on S s w None settled ready is b = tt

none-passed : (left behind later before : ℕ) → left + behind ≡ later + before → left + behind ≡ 0 + later + before
none-passed left behind later before e = omega arith

-- of the work that moves
told-moved : (S : ScenarioContents) (w time later : ℕ) (a b : Option Running) (e : Event) (r : Reply) → later ≡ time → (starts_work w r ≡ is_start e) → (finishes_work w r ≡ is_end e)
    → Rests S w time a b e → SleepTold S w 0 time later a b r
told-moved S w time later a b e r same start_is end_is (Rests.starts q e1 awake at no_end) =
    record { starts = λ told. (awake, at); goes_on = λ told. tt; finishes = λ told. absurd (cc) }
told-moved S w time later a b e r same start_is end_is (Rests.goes_on p q e1 balance no_start no_end) =
    record {
      starts = λ told. absurd (cc);
      goes_on = λ told. subst (λ (n : ℕ). still time p.mode + sleeps_before S w q.pc ≡ 0 + still n q.mode + sleeps_before S w p.pc) (sym same)
          (none-passed (still time p.mode) (sleeps_before S w q.pc) (still time q.mode) (sleeps_before S w p.pc) balance);
      finishes = λ told. absurd (cc);
    }
told-moved S w time later a b e r same start_is end_is (Rests.ends q up) =
    record { starts = λ told. absurd (cc); goes_on = λ told. absurd (cc); finishes = λ told. up }
told-moved S w time later a b e r same start_is end_is (Rests.again p q up awake at) =
    record { starts = λ told. (awake, at); goes_on = λ told. absurd (cc); finishes = λ told. up }

none-slept : (earlier later : ℕ) (b : Bool) → later ≡ earlier → cond {A = ℕ} (nat_lt earlier later && b) 1 0 ≡ 0
none-slept earlier later b e = ap (λ (c : Bool). cond {A = ℕ} (c && b) 1 0) (le-ltb earlier later (omega arith))

some-slept : (earlier later : ℕ) (b : Bool) → later ≡ earlier + 1 → cond {A = ℕ} (nat_lt earlier later && b) 1 0 ≡ cond {A = ℕ} b 1 0
some-slept earlier later b e = ap (λ (c : Bool). cond {A = ℕ} (c && b) 1 0) (lt-ltb earlier later (omega arith))

lets-told : (S : ScenarioContents) (s : State) (running : List (Option Running)) (time : ℕ) (r : Reply) (w : ℕ) → RunInPools S s.running → Lets S s running time r
    → SleepTold S w (cond (nat_lt s.time time && is_asleep (running_at s w)) 1 0) s.time time (running_at s w) (slice_index_or running w None) r
lets-told S s running time r w ready (Lets.nothing same stands silent) =
    let none : cond {A = ℕ} (nat_lt s.time time && is_asleep (running_at s w)) 1 0 ≡ 0 = none-slept s.time time (is_asleep (running_at s w)) stands in
    told-silent S w (cond (nat_lt s.time time && is_asleep (running_at s w)) 1 0) s.time time (running_at s w) (slice_index_or running w None) r (silent w)
    (subst (λ (n : ℕ). SleepsOn S w n s.time time (running_at s w) (slice_index_or running w None)) (sym none)
    (subst (λ (rs : List (Option Running)). SleepsOn S w 0 s.time time (running_at s w) (slice_index_or rs w None)) (sym same) (stays-on S w s.time time (running_at s w) stands)))
lets-told S s running time r w ready (Lets.passes settled ticked later silent) =
    let burning = burns S s w (running_at s w) in
    let asleep = is_asleep (running_at s w) in
    let one : cond {A = ℕ} (nat_lt s.time time && asleep) 1 0 ≡ cond {A = ℕ} asleep 1 0 = some-slept s.time time asleep later in
    let at : slice_index_or running w None ≡ cond burning (one_less (running_at s w)) (running_at s w) = ap (λ (rs : List (Option Running)). slice_index_or rs w None) ticked ∙ tick-at S s w in
    told-silent S w (cond (nat_lt s.time time && asleep) 1 0) s.time time (running_at s w) (slice_index_or running w None) r (silent w)
    (subst (λ (n : ℕ). SleepsOn S w n s.time time (running_at s w) (slice_index_or running w None)) (sym one)
    (subst (λ (n : ℕ). SleepsOn S w (cond asleep 1 0) s.time n (running_at s w) (slice_index_or running w None)) (sym later)
    (subst (λ (o : Option Running). SleepsOn S w (cond asleep 1 0) s.time (s.time + 1) (running_at s w) o) (sym at) (slept-on S s w (running_at s w) settled ready refl burning))))
lets-told S s running time r w ready (Lets.moves v e q h set stands told rests) =
    let none : cond {A = ℕ} (nat_lt s.time time && is_asleep (running_at s w)) 1 0 ≡ 0 = none-slept s.time time (is_asleep (running_at s w)) stands in
    subst (λ (n : ℕ). SleepTold S w n s.time time (running_at s w) (slice_index_or running w None) r) (sym none)
    (subst (λ (rs : List (Option Running)). SleepTold S w 0 s.time time (running_at s w) (slice_index_or rs w None) r) (sym set)
    (subst (λ (x : Reply). SleepTold S w 0 s.time time (running_at s w) (slice_index_or (slice_set s.running v.0 q) w None) x) (sym told) (elim (cases_eq v.0 w) [
      | inl same ↦ subst (λ (u : ℕ). SleepTold S u 0 s.time time (running_at s u) (slice_index_or (slice_set s.running v.0 q) u None) (reply.Event v e)) same
          (subst (λ (o : Option Running). SleepTold S v.0 0 s.time time (running_at s v.0) o (reply.Event v e)) (sym (get_or-set_same s.running v.0 q None (omega (arith, ready.long))))
          (told-moved S v.0 s.time time (running_at s v.0) q e (reply.Event v e) stands (both-true (is_start e) (v.0 == v.0) (eq-eqb v.0 v.0 refl)) (both-true (is_end e) (v.0 == v.0) (eq-eqb v.0 v.0 refl)) rests))
      | inr other ↦ told-silent S w 0 s.time time (running_at s w) (slice_index_or (slice_set s.running v.0 q) w None) (reply.Event v e)
          (both-false (is_start e) (v.0 == w) (ne_eqb v.0 w other), both-false (is_end e) (v.0 == w) (ne_eqb v.0 w other))
          (subst (SleepsOn S w 0 s.time time (running_at s w)) (sym (get_or-set_other s.running v.0 w q None (λ same. other (sym same)))) (stays-on S w s.time time (running_at s w) stands))
    ])))

pub table-sleeps : (S : ScenarioContents) (s : State) (i : Instr) (w : ℕ) → RunInPools S s.running
    → SleepTold S w (cond (nat_lt s.time (state_after S s i).time && is_asleep (running_at s w)) 1 0) s.time (state_after S s i).time (running_at s w) (running_at (state_after S s i) w) (reply_to S s i)
table-sleeps S s i w ready = lets-told S s (state_after S s i).running (state_after S s i).time (reply_to S s i) w ready (table-lets S s i)
