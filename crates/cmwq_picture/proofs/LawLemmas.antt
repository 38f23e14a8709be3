-- The laws of pictures.
use Rattle.std.proofs.Common.{◌≡◌, ◌⊎◌, ℕ, zero, suc, ◌+◌, ◌-◌, ◌*◌, ◌/◌, ◌%◌, ◌<◌, ◌≤◌, Bool, true, false, not, cond, ◌&&◌, ◌||◌, List, [], ◌∷◌, ◌++◌, length, Option, Some, None, arith, refl, sym, ap, ◌∙◌, inl, inr, subst}
use Rattle.std.proofs.lemmas.Bool.{cases_lt}
use Rattle.std.proofs.lemmas.Bool.Decides.{nat_tests}
use Rattle.std.specs.List.{filter, find, range_with_len}
use Rattle.std.specs.Prelude.{is_none, nat_le, nat_lt, slice_index_or, ◌==◌}
use Rattle.cmwq_types.specs.Contents.{ScenarioContents}
use Rattle.cmwq_types.specs.Faults.{IsValid}
use Rattle.cmwq_types.specs.Scenario.{is_high, is_unbound}
use Rattle.cmwq_types.specs.Setting.{IsSetting}
use Rattle.cmwq_types.specs.declared.instr.Instr.{Instr}
use Rattle.cmwq_types.specs.declared.instr.WorkId.{WorkId}
use Rattle.cmwq_types.proofs.SettingLemmas.{IsSetting-valid}
use Rattle.cmwq_table.specs.Counts.{burns, first_runnable, is_runnable, is_some_work, runs}
use Rattle.cmwq_table.specs.State.{State, pending_at, running_at, start}
use Rattle.cmwq_table.specs.Table.{after_all, table}
use Rattle.cmwq_table.specs.declared.state.Pending.{Pending}
use Rattle.cmwq_table.specs.declared.state.Running.{Running}
use Rattle.cmwq_picture.specs.Arming.{armer, marked}
use Rattle.cmwq_picture.specs.Laws.{BurnsAlone, BurnsBound, HasConsecutiveTicks, HasEachTick, IsEmptyWhereNothingIsDone, ShowsEachBurner}
use Rattle.cmwq_picture.specs.Picture.{below, burner_cell, burns_in, columns, from_time, is_before, is_drawn, pending_cell, run_or_pending, stands_in, ticks_from}
use Rattle.cmwq_picture.specs.declared.cell.Cell.{Cell}
use Rattle.cmwq_picture.specs.declared.cell.Cell.TheVariants.{Empty, Does}
use Rattle.cmwq_picture.specs.declared.cell.Sign.TheVariants as sign
use Rattle.cmwq_picture.specs.declared.row.Title.TheVariants as title
use Rattle.cmwq_drawing.specs.declared.drawing.Span.{Span}
use Rattle.cmwq_picture.proofs.TickLemmas.{IsTick, time-goes_on, time-ticks}

-- Ticks, one after another.

-- the states are at this time, at the next one, and so on
abbrev Consecutive : ℕ → List State → Type 0
Consecutive time [] = Unit {0}
Consecutive time (s ∷ states) = (s.time ≡ time) × Consecutive (time + 1) states

ticks-if : (S : ScenarioContents) (s t : State) (b : Bool) (states : List State) → nat_lt s.time t.time ≡ b → (s.time < t.time → t.time ≡ s.time + 1) → s.time ≤ t.time
    → Consecutive t.time states → Consecutive s.time (cond b (s ∷ []) [] ++ states)
ticks-if S s t true states e ticks least later =
    let less : s.time < t.time = grind (arith, nat_tests) in
    (refl, subst (λ (time : ℕ). Consecutive time states) (ticks less) later)
ticks-if S s t false states e ticks least later =
    let same : t.time ≡ s.time = (let most : t.time ≤ s.time = grind (arith, nat_tests) in omega arith) in
    subst (λ (time : ℕ). Consecutive time states) same later

next-time : (S : ScenarioContents) (s : State) (i : Instr) → IsSetting S → s.time < (table S s i).0.time → (table S s i).0.time ≡ s.time + 1
next-time S s i setting less = ap (λ (t : State). t.time) (time-ticks S s i setting less).1

ticks-consecutive : (S : ScenarioContents) (s : State) (instrs : List Instr) → IsSetting S → Consecutive s.time (ticks_from S s instrs)
ticks-consecutive S s [] setting = tt
ticks-consecutive S s (i ∷ is) setting =
    let t = (table S s i).0 in
    ticks-if S s t (nat_lt s.time t.time) (ticks_from S t is) refl (next-time S s i setting) (time-goes_on S s i setting) (ticks-consecutive S t is setting)

-- nothing is drawn from the span's end on
none-after : (span : Span) (to time : ℕ) (states : List State) → span.to ≡ Some to → to ≤ time → Consecutive time states → filter (λ s. is_drawn span s.time) states ≡ []
none-after span to time [] is late later = refl
none-after span to time (s ∷ states) is late later =
    let out : is_drawn span s.time ≡ false = outside (nat_le (from_time span.from) s.time) in
    ap (λ (b : Bool). cond b (s ∷ filter (λ s. is_drawn span s.time) states) (filter (λ s. is_drawn span s.time) states)) out
    ∙ none-after span to (time + 1) states is (omega arith) later.1
  where
    outside : (b : Bool) → (b && is_before s.time span.to) ≡ false
    outside b =
        let at = later.0 in
        let ended : nat_lt s.time to ≡ false = grind (arith, nat_tests) in
        ap (λ (end : Option ℕ). b && is_before s.time end) is ∙ ap (λ (c : Bool). b && c) ended ∙ none b
      where
        none : (b : Bool) → (b && false) ≡ false
        none true = refl
        none false = refl

-- from the span's first time on, ticks are drawn until its end
drawn-if : (span : Span) (time : ℕ) (s : State) (states : List State) (b : Bool) → is_drawn span s.time ≡ b → s.time ≡ time
    → (b ≡ false → filter (λ s. is_drawn span s.time) states ≡ []) → Consecutive (time + 1) (filter (λ s. is_drawn span s.time) states)
    → Consecutive time (cond b (s ∷ filter (λ s. is_drawn span s.time) states) (filter (λ s. is_drawn span s.time) states))
drawn-if span time s states true e at none later = (at, later)
drawn-if span time s states false e at none later = subst (λ (drawn : List State). Consecutive time drawn) (sym (none refl)) tt

-- a tick that isn't drawn, from the first time on, lies behind the span's end
end-reached : (span : Span) (time : ℕ) → from_time span.from ≤ time → is_drawn span time ≡ false → (end : Option ℕ) → span.to ≡ end → (to : ℕ) × (span.to ≡ Some to) × (to ≤ time)
end-reached span time after out (Some to) is =
    let begun : nat_le (from_time span.from) time ≡ true = grind (arith, nat_tests) in
    let ended : nat_lt time to ≡ false =
    ap (λ (b : Bool). b && nat_lt time to) (sym begun) ∙ ap (λ (end : Option ℕ). nat_le (from_time span.from) time && is_before time end) (sym is) ∙ out in
    (to, is, grind (arith, nat_tests))
end-reached span time after out None is =
    let begun : nat_le (from_time span.from) time ≡ true = grind (arith, nat_tests) in
    let drawn : is_drawn span time ≡ true =
    ap (λ (end : Option ℕ). nat_le (from_time span.from) time && is_before time end) is ∙ ap (λ (b : Bool). b && true) begun in
    absurd cc

none-drawn : (span : Span) (time : ℕ) (s : State) (states : List State) → from_time span.from ≤ time → s.time ≡ time → Consecutive (time + 1) states → is_drawn span s.time ≡ false
    → filter (λ s. is_drawn span s.time) states ≡ []
none-drawn span time s states after at later out =
    let ended = end-reached span s.time (omega arith) out span.to refl in
    none-after span ended.0 (time + 1) states ended.1 (let past = ended.2 in omega arith) later

drawn-after : (span : Span) (time : ℕ) (states : List State) → from_time span.from ≤ time → Consecutive time states → Consecutive time (filter (λ s. is_drawn span s.time) states)
drawn-after span time [] after later = tt
drawn-after span time (s ∷ states) after later =
    drawn-if span time s states (is_drawn span s.time) refl later.0 (none-drawn span time s states after later.0 later.1)
    (drawn-after span (time + 1) states (omega arith) later.1)

drawn-before : (span : Span) (time : ℕ) (states : List State) → time ≤ from_time span.from → Consecutive time states → Consecutive (from_time span.from) (filter (λ s. is_drawn span s.time) states)
drawn-before span time [] before later = tt
drawn-before span time (s ∷ states) before later =
    elim (cases_lt time (from_time span.from)) [
      | inl less ↦
          let at = later.0 in
          let early : nat_le (from_time span.from) s.time ≡ false = grind (arith, nat_tests) in
          subst (λ (b : Bool). Consecutive (from_time span.from) (cond b (s ∷ filter (λ s. is_drawn span s.time) states) (filter (λ s. is_drawn span s.time) states)))
          (sym (ap (λ (b : Bool). b && is_before s.time span.to) early)) (drawn-before span (time + 1) states (omega arith) later.1)
      | inr reached ↦
          let same : time ≡ from_time span.from = omega arith in
          subst (λ (first : ℕ). Consecutive first (filter (λ s. is_drawn span s.time) (s ∷ states))) same (drawn-after span time (s ∷ states) reached later)
    ]

time-at : (time : ℕ) (states : List State) (k : ℕ) (none : State) → k < length states → Consecutive time states → (slice_index_or states k none).time ≡ time + k
time-at time [] k none less later = absurd (omega arith)
time-at time (s ∷ states) zero none less later = (let at = later.0 in omega arith)
time-at time (s ∷ states) (suc k) none less later =
    let rest : (slice_index_or states k none).time ≡ (time + 1) + k = time-at (time + 1) states k none (omega arith) later.1 in
    omega arith

pub consecutive_ticks : HasConsecutiveTicks
unfolding HasConsecutiveTicks
consecutive_ticks S valid instrs span k none less =
    time-at (from_time span.from) (columns S instrs span) k none less
    (drawn-before span 0 (ticks_from S (start S) instrs) (omega arith) (ticks-consecutive S (start S) instrs (IsSetting-valid S valid)))

abbrev whole : Span
whole = record { from = None; to = None }

all-drawn : (states : List State) → filter (λ s. is_drawn whole s.time) states ≡ states
all-drawn [] = refl
all-drawn (s ∷ states) =
    let drawn : nat_le 0 s.time ≡ true = grind (arith, nat_tests) in
    ap (λ (b : Bool). cond (b && true) (s ∷ filter (λ s. is_drawn whole s.time) states) (filter (λ s. is_drawn whole s.time) states)) drawn
    ∙ ap (λ (rest : List State). s ∷ rest) (all-drawn states)

count-if : (S : ScenarioContents) (s t : State) (b : Bool) (states : List State) (end : ℕ) → nat_lt s.time t.time ≡ b → (s.time < t.time → t.time ≡ s.time + 1) → s.time ≤ t.time
    → length states + t.time ≡ end → length (cond b (s ∷ []) [] ++ states) + s.time ≡ end
count-if S s t true states end e ticks least counted =
    let less : s.time < t.time = grind (arith, nat_tests) in
    let next : t.time ≡ s.time + 1 = ticks less in
    omega arith
count-if S s t false states end e ticks least counted =
    let most : t.time ≤ s.time = grind (arith, nat_tests) in
    omega arith

ticks-counted : (S : ScenarioContents) (s : State) (instrs : List Instr) → IsSetting S → length (ticks_from S s instrs) + s.time ≡ (after_all S s instrs).time
ticks-counted S s [] setting = omega arith
ticks-counted S s (i ∷ is) setting =
    let t = (table S s i).0 in
    count-if S s t (nat_lt s.time t.time) (ticks_from S t is) (after_all S t is).time refl (next-time S s i setting) (time-goes_on S s i setting) (ticks-counted S t is setting)

pub each_tick : HasEachTick
unfolding HasEachTick
each_tick S valid instrs =
    let counted = ticks-counted S (start S) instrs (IsSetting-valid S valid) in
    ap length (all-drawn (ticks_from S (start S) instrs)) ∙ omega (arith, counted)

-- Works.

empty-if : (S : ScenarioContents) (s : State) (w : ℕ) (r : Option Running) (p : Option Pending) → pending_at s w ≡ p → run_or_pending S s w r ≡ Empty → (r ≡ None) × (p ≡ None)
empty-if S s w (Some r) p is empty = absurd cc
empty-if S s w None (Some p) is empty = (let shown : pending_cell (Some p) ≡ Empty = ap pending_cell (sym is) ∙ empty in absurd cc)
empty-if S s w None None is empty = (refl, refl)

nothing-shown : (S : ScenarioContents) (s : State) (w : ℕ) (r : Option Running) (p : Option Pending) → pending_at s w ≡ p → r ≡ None → p ≡ None → run_or_pending S s w r ≡ Empty
nothing-shown S s w (Some r) p is still none = absurd cc
nothing-shown S s w None (Some p) is still none = absurd cc
nothing-shown S s w None None is still none = ap pending_cell is

-- a mark stands in no empty cell's stead
marked-empty : (by : Option WorkId) (c : Cell) → marked by c ≡ Empty → c ≡ Empty
marked-empty None c empty = empty
marked-empty (Some by) (Does sign.Timed) empty = absurd cc
marked-empty (Some by) c empty = empty

unmarked : (by : Option WorkId) → marked by Empty ≡ Empty
unmarked None = refl
unmarked (Some by) = refl

pub empty_where_nothing_is_done : IsEmptyWhereNothingIsDone
unfolding IsEmptyWhereNothingIsDone
empty_where_nothing_is_done S deeds s w =
    let r = running_at s w.0 in
    let p = pending_at s w.0 in
    let by = armer deeds.armed w.0 p in (
      λ empty. empty-if S s w.0 r p refl (marked-empty by (run_or_pending S s w.0 r) empty),
      λ none. ap (marked by) (nothing-shown S s w.0 r p refl none.0 none.1) ∙ unmarked by,
    )

-- CPUs.

-- who burns in a bound pool is its first runnable work, and runs in a high pool, or beside one that has none
record Heads (S : ScenarioContents) (s : State) (w pool : ℕ) : Type 0 where
  first : first_runnable S s pool ≡ Some w
  beside : is_high pool ≡ false → first_runnable S s (pool + 1) ≡ None

is-some : (o : Option ℕ) (w : ℕ) → is_some_work o w ≡ true → o ≡ Some w
is-some (Some v) w e = (let same : v ≡ w = grind (arith, nat_tests) in ap (λ (n : ℕ). Some n) same)
is-some None w e = absurd cc

is-none : {A : Type 0} (o : Option A) → is_none o ≡ true → o ≡ None
is-none (Some x) e = absurd cc
is-none None e = refl

parts : (a b : Bool) → (a && b) ≡ true → (a ≡ true) × (b ≡ true)
parts true b e = (refl, e)
parts false b e = absurd cc

other : (a b : Bool) → (a || b) ≡ true → a ≡ false → b ≡ true
other true b e fails = absurd cc
other false b e fails = e

heads : (S : ScenarioContents) (s : State) (w : ℕ) (r : Running) → BurnsBound S s w r → Heads S s w r.pool
heads S s w r bound =
    let chosen : (is_some_work (first_runnable S s r.pool) w && (is_high r.pool || is_none (first_runnable S s (r.pool + 1)))) ≡ true =
    ap (λ (b : Bool). cond b (is_runnable r.mode) (is_some_work (first_runnable S s r.pool) w && (is_high r.pool || is_none (first_runnable S s (r.pool + 1))))) (sym bound.bound) ∙ bound.burns in
    let both = parts (is_some_work (first_runnable S s r.pool) w) (is_high r.pool || is_none (first_runnable S s (r.pool + 1))) chosen in
    record {
      first = is-some (first_runnable S s r.pool) w both.0;
      beside = λ normal. is-none (first_runnable S s (r.pool + 1)) (other (is_high r.pool) (is_none (first_runnable S s (r.pool + 1))) both.1 normal);
    }

-- of a CPU's two pools the high one burns alone
high-alone : (S : ScenarioContents) (s : State) (v w a b : ℕ) → Heads S s v a → Heads S s w b → a / 2 ≡ b / 2 → a < b → ⊥
high-alone S s v w a b one other same less =
    let next : b ≡ a + 1 = omega arith in
    let even : a % 2 ≡ 0 = omega arith in
    let normal : is_high a ≡ false = grind (arith, nat_tests) in
    let none : first_runnable S s (a + 1) ≡ None = one.beside normal in
    let some : first_runnable S s (a + 1) ≡ Some w = ap (first_runnable S s) (sym next) ∙ other.first in
    cc

pub burns_alone : BurnsAlone
unfolding BurnsAlone
burns_alone S s v w q r one other same =
    let a = heads S s v q one in
    let b = heads S s w r other in
    elim (cases_lt q.pool r.pool) [
      | inl less ↦ absurd (high-alone S s v w q.pool r.pool a b same less)
      | inr least ↦ elim (cases_lt r.pool q.pool) [
        | inl more ↦ absurd (high-alone S s w v r.pool q.pool b a (sym same) more)
        | inr most ↦
            let one_pool : q.pool ≡ r.pool = omega arith in
            let found : Some v ≡ Some w = sym a.first ∙ ap (first_runnable S s) one_pool ∙ b.first in
            cc
      ]
    ]

-- the one number that passes is found
found-if : (test : ℕ → Bool) (from w : ℕ) (rest : Option ℕ) (b : Bool) → test from ≡ b → (test from ≡ true → from ≡ w) → (test from ≡ false → rest ≡ Some w) → cond b (Some from) rest ≡ Some w
found-if test from w rest true e one later = ap (λ (n : ℕ). Some n) (one e)
found-if test from w rest false e one later = later e

only-found : (test : ℕ → Bool) (w from n : ℕ) → test w ≡ true → ((v : ℕ) → test v ≡ true → v ≡ w) → from ≤ w → w < from + n → find test (range_with_len from n) ≡ Some w
only-found test w from zero passes only least most = absurd (omega arith)
only-found test w from (suc n) passes only least most =
    found-if test from w (find test (range_with_len (from + 1) n)) (test from) refl (only from)
    (λ fails. only-found test w (from + 1) n passes only (above fails) (omega arith))
  where
    above : test from ≡ false → from + 1 ≤ w
    above fails =
        elim (cases_lt from w) [
          | inl less ↦ omega arith
          | inr reached ↦ (let same : w ≡ from = omega arith in let also : test from ≡ true = ap test (sym same) ∙ passes in absurd cc)
        ]

-- who passes the test of a CPU's row burns on that CPU
on-cpu : (S : ScenarioContents) (s : State) (cpu v : ℕ) (o : Option Running) → running_at s v ≡ o → (burns S s v o && runs (λ r. stands_in S (title.Cpu cpu) v r.pool r.worker) o) ≡ true
    → (q : Running) × BurnsBound S s v q × (q.pool / 2 ≡ cpu)
on-cpu S s cpu v (Some q) is passes =
    let both = parts (burns S s v (Some q)) (not (is_unbound S q.pool) && (q.pool / 2 == cpu)) passes in
    let there = parts (not (is_unbound S q.pool)) (q.pool / 2 == cpu) both.1 in
    let at = there.1 in
    (q, record { runs = is; bound = not-unbound (is_unbound S q.pool) there.0; burns = both.0 }, grind (arith, nat_tests))
  where
    not-unbound : (b : Bool) → not b ≡ true → b ≡ false
    not-unbound true e = absurd cc
    not-unbound false e = refl
on-cpu S s cpu v None is passes = absurd cc

pub shows_each_burner : ShowsEachBurner
unfolding ShowsEachBurner BurnsAlone
shows_each_burner S s deeds w r less bound =
    let cpu = r.pool / 2 in
    let at : (cpu == cpu) ≡ true = grind (arith, nat_tests) in
    let row : stands_in S (title.Cpu cpu) w r.pool r.worker ≡ true = ap (λ (b : Bool). not b && (cpu == cpu)) bound.bound ∙ at in
    let passes : burns_in S s (title.Cpu cpu) w ≡ true =
    ap (λ (o : Option Running). burns S s w o && runs (λ q. stands_in S (title.Cpu cpu) w q.pool q.worker) o) bound.runs
    ∙ ap (λ (b : Bool). b && stands_in S (title.Cpu cpu) w r.pool r.worker) bound.burns ∙ row in
    let only : (v : ℕ) → burns_in S s (title.Cpu cpu) v ≡ true → v ≡ w =
    λ v passes. (let there = on-cpu S s cpu v (running_at s v) refl passes in burns_alone S s v w there.0 r there.1 bound there.2) in
    ap burner_cell (only-found (burns_in S s (title.Cpu cpu)) w 0 (length S.works) passes only (omega arith) (omega arith))
