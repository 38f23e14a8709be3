-- In a tick each CPU burns in one of its two pools, or is idle.
use Rattle.std.proofs.Common.{◌≡◌, ℕ, zero, suc, ◌+◌, ◌*◌, ◌<◌, ◌≤◌, Bool, true, false, cond, ◌&&◌, ◌||◌, List, [], ◌∷◌, length, replicate, Option, Some, None, arith, refl, sym, ap, ◌∙◌, subst, inl, inr}
use Rattle.std.proofs.Math.ListN.{length-set}
use Rattle.std.proofs.lemmas.Bool.{cases_eq, eq-eqb, eqb-true}
use Rattle.std.proofs.lemmas.Bool.Decides.{nat_tests}
use Rattle.std.proofs.lemmas.List.{get_or-set_other, length-replicate}
use Rattle.std.specs.Prelude.{is_none, slice_index_or, ◌==◌}
use Rattle.cmwq_types.specs.Contents.{ScenarioContents}
use Rattle.cmwq_types.specs.First.{MatchFirst, count_below}
use Rattle.cmwq_types.specs.Scenario.{is_high, is_unbound, pool_count}
use Rattle.cmwq_types.specs.declared.instr.Instr.{Instr}
use Rattle.cmwq_types.proofs.FirstLemmas.{by_least-order, first_below-is_first}
use Rattle.cmwq_table.specs.Counts.{burns, first_runnable, is_runnable, is_some_work, running_before, running_stamp, runs}
use Rattle.cmwq_table.specs.Laws.{state_after}
use Rattle.cmwq_table.specs.State.{State, running_at, start}
use Rattle.cmwq_table.specs.Table.{after_all}
use Rattle.cmwq_table.specs.declared.state.Running.{Running}
use Rattle.cmwq_ledger.specs.Contents.{LedgerContents, TotalsContents}
use Rattle.cmwq_ledger.specs.Ledger.{ledger_after, lets_pass}
use Rattle.cmwq_ledger.specs.Totals.{burned_on, burner_counted, burners_counted, idle_counted, is_idle_cpu, one_more_at, totals_after, totals_begun, totals_from, totals_passed, totals_ticked}
use Rattle.cmwq_ledger_laws.proofs.BurnLemmas.{burners-pools-long}
use Rattle.cmwq_ledger_laws.proofs.Counting.{IsBelow, bit, count-same, count-work, is_some_in}
use Rattle.cmwq_ledger_laws.proofs.Passing.{stood, table-passes, went}
use Rattle.cmwq_ledger_laws.proofs.TotalsLemmas.{set-any}

abbrev pub count_at : List ℕ → ℕ → ℕ
count_at counts k = slice_index_or counts k 0

raised-if : (counts : List ℕ) (k at : ℕ) (b : Bool) → (b ≡ true → k ≡ at) → cond b (count_at counts k + 1) (count_at counts at) ≡ count_at counts at + bit b
raised-if counts k at true same = ap (λ (j : ℕ). count_at counts j + 1) (same refl)
raised-if counts k at false same = omega arith

one-more-at : (counts : List ℕ) (k at : ℕ) → at < length counts → count_at (one_more_at k counts) at ≡ count_at counts at + bit (k == at)
one-more-at counts k at there = set-any counts k at (count_at counts k + 1) 0 there ∙ raised-if counts k at (k == at) (eqb-true k at)

-- Pools.

-- the work burns in this state, in the pool
abbrev burns_in : ScenarioContents → State → ℕ → ℕ → Bool
burns_in S s pool w = burns S s w (running_at s w) && runs (λ r. r.pool == pool) (running_at s w)

burner-at : (S : ScenarioContents) (s : State) (w pool : ℕ) (o : Option Running) (b : Bool) (T : TotalsContents) → burns S s w o ≡ b → pool < length T.pools
    → count_at (cond b (burner_counted S w o T) T).pools pool ≡ count_at T.pools pool + bit (b && runs (λ r. r.pool == pool) o)
burner-at S s w pool (Some r) true T is there = one-more-at T.pools r.pool pool there
burner-at S s w pool None true T is there = cc
burner-at S s w pool o false T is there = omega arith

burners-at : (S : ScenarioContents) (s : State) (n pool : ℕ) (T : TotalsContents) → pool < length T.pools
    → count_at (burners_counted S s n T).pools pool ≡ count_at T.pools pool + count_below (burns_in S s pool) n
burners-at S s zero pool T there = omega arith
burners-at S s (suc n) pool T there =
    let long : length (burners_counted S s n T).pools ≡ length T.pools = burners-pools-long S s n T in
    let before : count_at (burners_counted S s n T).pools pool ≡ count_at T.pools pool + count_below (burns_in S s pool) n = burners-at S s n pool T there in
    let here = burner-at S s n pool (running_at s n) (burns S s n (running_at s n)) (burners_counted S s n T) refl (omega (arith, long)) in
    omega (arith, before, here)

-- Who burns in a bound pool.

abbrev is_runnable_in : State → ℕ → ℕ → Bool
is_runnable_in s pool w = runs (λ r. (r.pool == pool) && is_runnable r.mode) (running_at s w)

head-runs : (S : ScenarioContents) (s : State) (pool w : ℕ) (o : Option ℕ) → MatchFirst (running_before s) (is_runnable_in s pool) (length S.works) o → is_some_work o w ≡ true
    → (w < length S.works) × (is_runnable_in s pool w ≡ true)
head-runs S s pool w (Some v) first e = subst (λ (k : ℕ). (k < length S.works) × (is_runnable_in s pool k ≡ true)) (eqb-true v w e) (first.in_range, first.passes)
head-runs S s pool w None none e = cc

head-first : (S : ScenarioContents) (s : State) (pool : ℕ) → MatchFirst (running_before s) (is_runnable_in s pool) (length S.works) (first_runnable S s pool)
head-first S s pool = first_below-is_first (running_before s) (is_runnable_in s pool) (length S.works) (by_least-order (λ w. running_stamp (running_at s w)))

-- no other pool of the CPU goes first
abbrev goes_first : ScenarioContents → State → ℕ → Bool
goes_first S s pool = is_high pool || is_none (first_runnable S s (pool + 1))

not-head : (S : ScenarioContents) (s : State) (pool w : ℕ) → is_runnable_in s pool w ≡ false → is_some_work (first_runnable S s pool) w ≡ false
not-head S s pool w fails = decide (is_some_work (first_runnable S s pool) w) refl where
  decide : (b : Bool) → is_some_work (first_runnable S s pool) w ≡ b → b ≡ false
  decide true e = absurd (cc ((head-runs S s pool w (first_runnable S s pool) (head-first S s pool) e).1, fails))
  decide false e = refl

false-first : (a b : Bool) → a ≡ false → (b && a) ≡ false
false-first a true e = e
false-first a false e = refl

false-left : (a b : Bool) → a ≡ false → (a && b) ≡ false
false-left true b e = cc
false-left false b e = refl

burns-here : (S : ScenarioContents) (s : State) (pool w : ℕ) (r : Running) → is_unbound S pool ≡ false → running_at s w ≡ Some r → (b : Bool) → (r.pool == pool) ≡ b
    → (burns S s w (Some r) && b) ≡ (goes_first S s pool && is_some_work (first_runnable S s pool) w)
burns-here S s pool w r bound is true e =
    let same : r.pool ≡ pool = eqb-true r.pool pool e in
    and-true (burns S s w (Some r))
    ∙ ap (λ (p : ℕ). cond (is_unbound S p) (is_runnable r.mode) (is_some_work (first_runnable S s p) w && goes_first S s p)) same
    ∙ ap (λ (b : Bool). cond b (is_runnable r.mode) (is_some_work (first_runnable S s pool) w && goes_first S s pool)) bound
    ∙ and-swap (is_some_work (first_runnable S s pool) w) (goes_first S s pool)
  where
    and-true : (b : Bool) → (b && true) ≡ b
    and-true true = refl
    and-true false = refl

    and-swap : (a b : Bool) → (a && b) ≡ (b && a)
    and-swap true true = refl
    and-swap true false = refl
    and-swap false true = refl
    and-swap false false = refl
burns-here S s pool w r bound is false e =
    let fails : is_runnable_in s pool w ≡ false = ap (runs (λ q. (q.pool == pool) && is_runnable q.mode)) is ∙ false-left (r.pool == pool) (is_runnable r.mode) e in
    false-first false (burns S s w (Some r)) refl ∙ sym (false-first (is_some_work (first_runnable S s pool) w) (goes_first S s pool) (not-head S s pool w fails))

burns-as : (S : ScenarioContents) (s : State) (pool w : ℕ) (o : Option Running) → is_unbound S pool ≡ false → running_at s w ≡ o
    → (burns S s w o && runs (λ r. r.pool == pool) o) ≡ (goes_first S s pool && is_some_work (first_runnable S s pool) w)
burns-as S s pool w (Some r) bound is = burns-here S s pool w r bound is (r.pool == pool) refl
burns-as S s pool w None bound is =
    let fails : is_runnable_in s pool w ≡ false = ap (runs (λ q. (q.pool == pool) && is_runnable q.mode)) is in
    sym (false-first (is_some_work (first_runnable S s pool) w) (goes_first S s pool) (not-head S s pool w fails))

head-there : (S : ScenarioContents) (s : State) (pool : ℕ) (o : Option ℕ) → MatchFirst (running_before s) (is_runnable_in s pool) (length S.works) o → IsBelow o (length S.works)
head-there S s pool (Some v) first = first.in_range
head-there S s pool None none = tt

burning-in : (S : ScenarioContents) (s : State) (pool : ℕ) → is_unbound S pool ≡ false
    → count_below (burns_in S s pool) (length S.works) ≡ bit (is_some_in (λ w. goes_first S s pool) (first_runnable S s pool))
burning-in S s pool bound =
    count-same (burns_in S s pool) (λ w. goes_first S s pool && is_some_work (first_runnable S s pool) w) (length S.works) (λ w. burns-as S s pool w (running_at s w) bound refl)
    ∙ count-work (λ w. goes_first S s pool) (first_runnable S s pool) (length S.works) (head-there S s pool (first_runnable S s pool) (head-first S s pool))

-- One CPU.

one-of-three : (low high : Option ℕ) → bit (is_some_in (λ w. is_none high) low) + bit (is_some_in (λ w. true) high) + bit (is_none low && is_none high) ≡ 1
one-of-three (Some v) (Some w) = refl
one-of-three (Some v) None = refl
one-of-three None (Some w) = refl
one-of-three None None = refl

either : (S : ScenarioContents) (s : State) (cpu : ℕ) → cpu < S.cpus
    → count_below (burns_in S s (2 * cpu)) (length S.works) + count_below (burns_in S s (2 * cpu + 1)) (length S.works) + bit (is_idle_cpu S s cpu) ≡ 1
either S s cpu there =
    let bound_low : is_unbound S (2 * cpu) ≡ false = grind (arith, nat_tests) in
    let bound_high : is_unbound S (2 * cpu + 1) ≡ false = grind (arith, nat_tests) in
    let low_not_high : is_high (2 * cpu) ≡ false = grind (arith, nat_tests) in
    let high_is_high : is_high (2 * cpu + 1) ≡ true = grind (arith, nat_tests) in
    let low = first_runnable S s (2 * cpu) in
    let high = first_runnable S s (2 * cpu + 1) in
    let in_low : count_below (burns_in S s (2 * cpu)) (length S.works) ≡ bit (is_some_in (λ w. is_none high) low) =
    burning-in S s (2 * cpu) bound_low ∙ ap (λ (b : Bool). bit (is_some_in (λ w. b || is_none high) low)) low_not_high in
    let in_high : count_below (burns_in S s (2 * cpu + 1)) (length S.works) ≡ bit (is_some_in (λ w. true) high) =
    burning-in S s (2 * cpu + 1) bound_high ∙ ap (λ (b : Bool). bit (is_some_in (λ w. b || is_none (first_runnable S s (2 * cpu + 1 + 1))) high)) high_is_high in
    let sum = one-of-three low high in
    omega (arith, in_low, in_high, sum)

-- Idle CPUs.

idle-if-long : (S : ScenarioContents) (n : ℕ) (counts : List ℕ) (b : Bool) → length (cond {A = List ℕ} b (one_more_at n counts) counts) ≡ length counts
idle-if-long S n counts true = length-set counts n (count_at counts n + 1)
idle-if-long S n counts false = refl

idle-long : (S : ScenarioContents) (s : State) (n : ℕ) (counts : List ℕ) → length (idle_counted S s n counts) ≡ length counts
idle-long S s zero counts = refl
idle-long S s (suc n) counts = idle-if-long S n (idle_counted S s n counts) (is_idle_cpu S s n) ∙ idle-long S s n counts

other-cpu : (n cpu : ℕ) (counts : List ℕ) (b : Bool) → (cpu ≡ n → ⊥) → count_at (cond {A = List ℕ} b (one_more_at n counts) counts) cpu ≡ count_at counts cpu
other-cpu n cpu counts true ne = get_or-set_other counts n cpu (count_at counts n + 1) 0 ne
other-cpu n cpu counts false ne = refl

this-cpu : (cpu : ℕ) (counts : List ℕ) (b : Bool) → cpu < length counts → count_at (cond {A = List ℕ} b (one_more_at cpu counts) counts) cpu ≡ count_at counts cpu + bit b
this-cpu cpu counts true there = one-more-at counts cpu cpu there ∙ ap (λ (b : Bool). count_at counts cpu + bit b) (eq-eqb cpu cpu refl)
this-cpu cpu counts false there = omega arith

idle-past : (S : ScenarioContents) (s : State) (n cpu : ℕ) (counts : List ℕ) → n ≤ cpu → count_at (idle_counted S s n counts) cpu ≡ count_at counts cpu
idle-past S s zero cpu counts past = refl
idle-past S s (suc n) cpu counts past =
    other-cpu n cpu (idle_counted S s n counts) (is_idle_cpu S s n) (λ e. absurd (omega arith)) ∙ idle-past S s n cpu counts (omega arith)

idle-at : (S : ScenarioContents) (s : State) (n cpu : ℕ) (counts : List ℕ) → cpu < n → cpu < length counts
    → count_at (idle_counted S s n counts) cpu ≡ count_at counts cpu + bit (is_idle_cpu S s cpu)
idle-at S s zero cpu counts below there = absurd (omega arith)
idle-at S s (suc n) cpu counts below there =
    let long : length (idle_counted S s n counts) ≡ length counts = idle-long S s n counts in
    elim (cases_eq cpu n) [
      | inl e ↦
          subst (λ (k : ℕ). count_at (cond {A = List ℕ} (is_idle_cpu S s k) (one_more_at k (idle_counted S s k counts)) (idle_counted S s k counts)) cpu ≡ count_at counts cpu + bit (is_idle_cpu S s cpu)) e
          (this-cpu cpu (idle_counted S s cpu counts) (is_idle_cpu S s cpu) (let same : length (idle_counted S s cpu counts) ≡ length counts = idle-long S s cpu counts in omega arith)
          ∙ ap (λ (k : ℕ). k + bit (is_idle_cpu S s cpu)) (idle-past S s cpu cpu counts (omega arith)))
      | inr ne ↦ other-cpu n cpu (idle_counted S s n counts) (is_idle_cpu S s n) ne ∙ idle-at S s n cpu counts (omega arith) there
    ]

-- An instruction.

burner-idle : (S : ScenarioContents) (w : ℕ) (o : Option Running) (b : Bool) (T : TotalsContents) → (cond b (burner_counted S w o T) T).idle ≡ T.idle
burner-idle S w (Some r) true T = refl
burner-idle S w None true T = refl
burner-idle S w o false T = refl

burners-idle : (S : ScenarioContents) (s : State) (n : ℕ) (T : TotalsContents) → (burners_counted S s n T).idle ≡ T.idle
burners-idle S s zero T = refl
burners-idle S s (suc n) T = burner-idle S n (running_at s n) (burns S s n (running_at s n)) (burners_counted S s n T) ∙ burners-idle S s n T

pub record IsFilled (S : ScenarioContents) (s : State) (T : TotalsContents) : Type 0 where
  pub pools : length T.pools ≡ pool_count S
  pub idle : length T.idle ≡ S.cpus
  pub time : (cpu : ℕ) → cpu < S.cpus → burned_on T cpu + count_at T.idle cpu ≡ s.time

sums-up : (a b c x y z p q r time : ℕ) → p ≡ a + x → q ≡ b + y → r ≡ c + z → x + y + z ≡ 1 → (a + b) + c ≡ time → (p + q) + r ≡ time + 1
sums-up a b c x y z p q r time e f g h k = omega arith

tick-filled : (S : ScenarioContents) (s : State) (T : TotalsContents) → IsFilled S s T → (cpu : ℕ) → cpu < S.cpus
    → burned_on (totals_ticked S s T) cpu + count_at (totals_ticked S s T).idle cpu ≡ s.time + 1
tick-filled S s T filled cpu there =
    let n = length S.works in
    let idle : count_at (totals_ticked S s T).idle cpu ≡ count_at T.idle cpu + bit (is_idle_cpu S s cpu) =
    ap (λ (counts : List ℕ). count_at (idle_counted S s S.cpus counts) cpu) (burners-idle S s n T) ∙ idle-at S s S.cpus cpu T.idle there (omega (arith, filled.idle)) in
    sums-up (count_at T.pools (2 * cpu)) (count_at T.pools (2 * cpu + 1)) (count_at T.idle cpu) (count_below (burns_in S s (2 * cpu)) n) (count_below (burns_in S s (2 * cpu + 1)) n) (bit (is_idle_cpu S s cpu))
    (count_at (burners_counted S s n T).pools (2 * cpu)) (count_at (burners_counted S s n T).pools (2 * cpu + 1)) (count_at (totals_ticked S s T).idle cpu) s.time
    (burners-at S s n (2 * cpu) T (omega (arith, filled.pools))) (burners-at S s n (2 * cpu + 1) T (omega (arith, filled.pools))) idle (either S s cpu there) (filled.time cpu there)

ticked-filled : (S : ScenarioContents) (s t : State) (T : TotalsContents) → IsFilled S s T → t.time ≡ s.time + 1 → IsFilled S t (totals_ticked S s T)
ticked-filled S s t T filled later = record {
  pools = burners-pools-long S s (length S.works) T ∙ filled.pools;
  idle = idle-long S s S.cpus (burners_counted S s (length S.works) T).idle ∙ ap length (burners-idle S s (length S.works) T) ∙ filled.idle;
  time = λ cpu there. tick-filled S s T filled cpu there ∙ sym later;
}

passed-filled : (S : ScenarioContents) (s t : State) (T : TotalsContents) → IsFilled S s T → (b : Bool) → (b ≡ false → t.time ≡ s.time) → (b ≡ true → t.time ≡ s.time + 1)
    → IsFilled S t (cond b (totals_ticked S s T) T)
passed-filled S s t T filled true stands passes = ticked-filled S s t T filled (passes refl)
passed-filled S s t T filled false stands passes = record { pools = filled.pools; idle = filled.idle; time = λ cpu there. filled.time cpu there ∙ sym (stands refl) }

pub all-filled : (S : ScenarioContents) (s : State) (L : LedgerContents) (T : TotalsContents) (instrs : List Instr) → IsFilled S s T → IsFilled S (after_all S s instrs) (totals_from S L T s instrs)
all-filled S s L T [] filled = filled
all-filled S s L T (i ∷ instrs) filled =
    let t = state_after S s i in
    let passes = table-passes S s i in
    let then : IsFilled S t (totals_passed S s t T) = passed-filled S s t T filled (lets_pass s t) (stood s t passes) (went s t passes) in
    all-filled S t (ledger_after S L s i) (totals_after S L T s i) instrs (record { pools = then.pools; idle = then.idle; time = then.time })

none-at : (n k : ℕ) → count_at (replicate n 0) k ≡ 0
none-at zero k = refl
none-at (suc n) zero = refl
none-at (suc n) (suc k) = none-at n k

pub start-filled : (S : ScenarioContents) → IsFilled S (start S) (totals_begun S)
start-filled S = record {
  pools = length-replicate (pool_count S) 0;
  idle = length-replicate S.cpus 0;
  time = λ cpu there.
      let low = none-at (pool_count S) (2 * cpu) in
      let high = none-at (pool_count S) (2 * cpu + 1) in
      let idle = none-at S.cpus cpu in
      omega (arith, low, high, idle);
}
