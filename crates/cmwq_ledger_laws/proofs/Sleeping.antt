-- What an instruction does to the sleep of an instance: how long it is still to sleep, and the sleeps before its place.
use Rattle.std.proofs.Common.{◌≡◌, ℕ, ◌+◌, ◌-◌, ◌<◌, ◌≤◌, Bool, true, false, ◌&&◌, List, length, Option, Some, None, arith, refl, sym, ap, ◌∙◌, subst}
use Rattle.std.proofs.lemmas.Bool.{and_parts, eq-eqb, leb-false, leb-true}
use Rattle.std.specs.Prelude.{is_some, nat_le, slice_set, ◌==◌}
use Rattle.cmwq_types.specs.Contents.{ScenarioContents}
use Rattle.cmwq_types.specs.First.{MatchFirst, by_least}
use Rattle.cmwq_types.specs.Scenario.{op_at, pool_count}
use Rattle.cmwq_types.specs.declared.instr.Instr.{Instr}
use Rattle.cmwq_types.specs.declared.instr.WorkId.{WorkId}
use Rattle.cmwq_types.specs.declared.moves.Move.{Move}
use Rattle.cmwq_types.specs.declared.moves.Move.TheVariants.{Advance, Wake}
use Rattle.cmwq_types.specs.declared.reply.Event.{Event}
use Rattle.cmwq_types.specs.declared.reply.Event.TheVariants as event
use Rattle.cmwq_types.specs.declared.reply.Mode.{Mode}
use Rattle.cmwq_types.specs.declared.reply.Mode.TheVariants.{Runnable, Asleep}
use Rattle.cmwq_types.specs.declared.reply.Reply.{Reply}
use Rattle.cmwq_types.specs.declared.reply.Reply.TheVariants as reply
use Rattle.cmwq_types.specs.declared.scenario.Op.{Op}
use Rattle.cmwq_types.specs.declared.scenario.Op.TheVariants as op
use Rattle.cmwq_table.specs.Changes.{MoveFits, slept_in}
use Rattle.cmwq_table.specs.Counts.{first_runnable, first_slept, is_runnable, is_slept, or_else, ready_head, running_before, runs}
use Rattle.cmwq_table.specs.Moves.{as_move, first_moving, moved_work, next_move, start_move, tick}
use Rattle.cmwq_table.specs.State.{State, running_at}
use Rattle.cmwq_table.specs.Table.{table}
use Rattle.cmwq_table.specs.Told.{is_end, is_start, sleep_of}
use Rattle.cmwq_table.specs.declared.state.Running.{Running}
use Rattle.cmwq_table.proofs.Choosing.{IfThere, found-first, moving-is_first, ready-runnable, runnable-is_first, slept-is_first, slept-is_slept, slept_before}
use Rattle.cmwq_table.proofs.Runs.{Run, Runs, table-runs}
use Rattle.cmwq_burning.proofs.Happening.{IsSilent}
use Rattle.cmwq_burning.proofs.Settling.{IsSettled}
use Rattle.cmwq_ledger_laws.specs.Sleeps.{sleeps_before}
use Rattle.cmwq_ledger_laws.proofs.SleepBodies.{before-next}

-- for how many ticks it is still to sleep
abbrev pub still : ℕ → Mode → ℕ
still time Runnable = 0
still time (Asleep until) = until - time

-- How one work sleeps before and after an event of it.
pub data Rests (S : ScenarioContents) (w time : ℕ) : Option Running → Option Running → Event → Type 0 where
  starts : (q : Running) (e : Event) → q.mode ≡ Runnable → q.pc ≡ 0 → is_end e ≡ false → Rests S w time None (Some q) e
  goes_on : (r q : Running) (e : Event) → still time r.mode + sleeps_before S w q.pc ≡ still time q.mode + sleeps_before S w r.pc → is_start e ≡ false → is_end e ≡ false
      → Rests S w time (Some r) (Some q) e
  ends : (r : Running) → still time r.mode ≡ 0 → Rests S w time (Some r) None event.Finishes
  again : (r q : Running) → still time r.mode ≡ 0 → q.mode ≡ Runnable → q.pc ≡ 0 → Rests S w time (Some r) (Some q) event.FinishesAndStarts

-- What an instruction does, up to how the works run then, the time, and the reply.
pub data Lets (S : ScenarioContents) (s : State) (running : List (Option Running)) (time : ℕ) (r : Reply) : Type 0 where
  nothing : running ≡ s.running → time ≡ s.time → IsSilent r → Lets S s running time r
  passes : IsSettled S s → running ≡ (tick S s).running → time ≡ s.time + 1 → IsSilent r → Lets S s running time r
  moves : (w : WorkId) (e : Event) (q : Option Running) → w.0 < length S.works → running ≡ slice_set s.running w.0 q → time ≡ s.time → r ≡ reply.Event w e
      → Rests S w.0 s.time (running_at s w.0) q e → Lets S s running time r

abbrev pub Does : ScenarioContents → State → State × Reply → Type 0
Does S s after = Lets S s after.0.running after.0.time after.1

-- the instance runs, and is runnable
abbrev pub IsAwake : State → ℕ → Type 0
IsAwake s w = runs (λ r. is_runnable r.mode) (running_at s w) ≡ true

pub runnable-awake : (S : ScenarioContents) (s : State) (pool : ℕ) → IfThere (IsAwake s) (first_runnable S s pool)
runnable-awake S s pool =
    found-first (running_before s) (λ w. runs (λ r. (r.pool == pool) && is_runnable r.mode) (running_at s w)) (length S.works) (IsAwake s) (λ w h e. awake w (running_at s w) e) (first_runnable S s pool)
    (runnable-is_first S s pool)
  where
    awake : (w : ℕ) (o : Option Running) → runs (λ r. (r.pool == pool) && is_runnable r.mode) o ≡ true → runs (λ r. is_runnable r.mode) o ≡ true
    awake w (Some r) e = (and_parts (r.pool == pool) (is_runnable r.mode) e).1
    awake w None e = e

-- While no pool has a move, no sleep is over.

no-move : (S : ScenarioContents) (s : State) (o : Option ℕ) → MatchFirst (by_least (λ pool. pool)) (λ pool. is_some (next_move S s pool)) (pool_count S) o → o ≡ None
    → (pool : ℕ) → pool < pool_count S → is_some (next_move S s pool) ≡ false
no-move S s (Some found) first is pool h = cc
no-move S s None none is pool h = none pool h

none-slept : (head slept : Option ℕ) (start : Option Move) → is_some (or_else (as_move Advance head) (or_else (as_move Wake slept) start)) ≡ false → slept ≡ None
none-slept (Some w) slept start e = cc
none-slept None (Some w) start e = cc
none-slept None None start e = refl

fails-first : (before : ℕ → ℕ → Bool) (test : ℕ → Bool) (n : ℕ) (o : Option ℕ) → MatchFirst before test n o → o ≡ None → (w : ℕ) → w < n → test w ≡ false
fails-first before test n (Some m) first is w h = cc
fails-first before test n None none is w h = none w h

both-hold : (a b : Bool) → (a && b) ≡ false → a ≡ true → b ≡ false
both-hold true b e h = e
both-hold false b e h = cc

sleeps-on : (time until : ℕ) → nat_le until time ≡ false → time < until
sleeps-on time until e = leb-false until time e

pub settled-sleep : (S : ScenarioContents) (s : State) (w until : ℕ) (r : Running) → IsSettled S s → w < length S.works → r.pool < pool_count S → running_at s w ≡ Some r
    → r.mode ≡ Asleep until → s.time < until
settled-sleep S s w until r settled there in_pool is asleep =
    let still_pool : is_some (next_move S s r.pool) ≡ false =
    no-move S s (first_moving S s) (moving-is_first S s) settled r.pool in_pool in
    let none : first_slept S s r.pool ≡ None = none-slept (ready_head S s r.pool) (first_slept S s r.pool) (start_move S s r.pool) still_pool in
    let fails : runs (slept_in r.pool s.time) (running_at s w) ≡ false =
    fails-first (slept_before s) (λ v. runs (slept_in r.pool s.time) (running_at s v)) (length S.works) (first_slept S s r.pool) (slept-is_first S s r.pool) none w there in
    let here : ((r.pool == r.pool) && is_slept r.mode s.time) ≡ false = ap (runs (slept_in r.pool s.time)) (sym is) ∙ fails in
    sleeps-on s.time until (ap (λ (m : Mode). is_slept m s.time) (sym asleep) ∙ both-hold (r.pool == r.pool) (is_slept r.mode s.time) here (eq-eqb r.pool r.pool refl))

-- From how the work that moves ran, and runs.

awake-still : (time : ℕ) (mode : Mode) → is_runnable mode ≡ true → still time mode ≡ 0
awake-still time Runnable e = refl
awake-still time (Asleep until) e = cc

slept-still : (time : ℕ) (mode : Mode) → is_slept mode time ≡ true → still time mode ≡ 0
slept-still time Runnable e = cc
slept-still time (Asleep until) e = let over : until ≤ time = leb-true until time e in omega arith

module _ (S : ScenarioContents) (s : State) where
  -- by an operation that sleeps so much
  balance : (w : ℕ) (r : Running) (o : Op) (left : ℕ) → op_at S w r.pc ≡ o → left ≡ still s.time r.mode + sleep_of o → still s.time r.mode + sleeps_before S w (r.pc + 1) ≡ left + sleeps_before S w r.pc
  balance w r o left at e = adds-up (still s.time r.mode) left (sleeps_before S w r.pc) (sleeps_before S w (r.pc + 1)) (sleep_of (op_at S w r.pc)) (sleep_of o) (before-next S w r.pc) (ap sleep_of at) e where
    adds-up : (a left before after more ticks : ℕ) → after ≡ before + more → more ≡ ticks → left ≡ a + ticks → a + after ≡ left + before
    adds-up a left before after more ticks p q r = omega arith

  -- one that advances is awake, and the sleep of one that wakes is over
  awake : (pool : ℕ) (w : WorkId) (r : Running) → MoveFits S s pool (Advance w) → running_at s w.0 ≡ Some r → still s.time r.mode ≡ 0
  awake pool w r fits is = awake-still s.time r.mode (ap (runs (λ q. is_runnable q.mode)) (sym is) ∙ ready-runnable pool (running_at s w.0) fits.ready)

  slept : (pool : ℕ) (w : WorkId) (r : Running) → MoveFits S s pool (Wake w) → running_at s w.0 ≡ Some r → still s.time r.mode ≡ 0
  slept pool w r fits is = slept-still s.time r.mode (ap (runs (λ q. is_slept q.mode s.time)) (sym is) ∙ slept-is_slept pool s.time (running_at s w.0) fits.slept)

  run-rests : (pool : ℕ) (move : Move) (e : Event) (a q : Option Running) (next : ℕ) → MoveFits S s pool move → running_at s (moved_work move).0 ≡ a → Run S s pool move e a q next → Rests S (moved_work move).0 s.time a q e
  run-rests pool move e a q next fits is (Run.starts w worker p free so) = Rests.starts _ e refl refl refl
  run-rests pool move e a q next fits is (Run.rescues w p so) = Rests.starts _ e refl refl refl
  run-rests pool move e a q next fits is (Run.wakes w r) = Rests.goes_on r _ e (ap (λ (n : ℕ). n + sleeps_before S w.0 r.pc) (slept pool w r fits is)) refl refl
  run-rests pool move e a q next fits is (Run.burns w r ticks at) = Rests.goes_on r _ e (balance w.0 r (op.Burn ticks) (still s.time r.mode) at (omega arith)) refl refl
  run-rests pool move e a q next fits is (Run.sleeps w r ticks at) =
      Rests.goes_on r _ e (balance w.0 r (op.Sleep ticks) (s.time + ticks - s.time) at (omega (arith, awake pool w r fits is))) refl refl
  run-rests pool move e a q next fits is (Run.asks w r o e1 v took put at asking) =
      Rests.goes_on r _ e (balance w.0 r o (still s.time r.mode) at (omega (arith, asking.sleeps))) asking.starts asking.ends
  run-rests pool move e a q next fits is (Run.ends w r at) = Rests.ends r (awake pool w r fits is)
  run-rests pool move e a q next fits is (Run.again w r born at) = Rests.again r _ (awake pool w r fits is) refl refl

  runs-let : (t : State) (r : Reply) → Runs S s t r → Lets S s t.running t.time r
  runs-let t r (Runs.nothing running time quiet) = Lets.nothing running time (λ w. (quiet (λ v e. is_start e && (v.0 == w)) (λ v. refl) (λ v. refl), quiet (λ v e. is_end e && (v.0 == w)) (λ v. refl) (λ v. refl)))
  runs-let t r (Runs.passes moving running time quiet) = Lets.passes moving running time (λ w. (quiet (λ v e. is_start e && (v.0 == w)) (λ v. refl) (λ v. refl), quiet (λ v e. is_end e && (v.0 == w)) (λ v. refl) (λ v. refl)))
  runs-let t r (Runs.moves pool move e a q next there in_range chosen fits is run running time later told) =
      let w = moved_work move in
      let rests = run-rests pool move e a q next fits is run in
      Lets.moves w e q in_range running time told (subst (λ (o : Option Running). Rests S w.0 s.time o q e) (sym is) rests)

pub table-lets : (S : ScenarioContents) (s : State) (i : Instr) → Does S s (table S s i)
table-lets S s i = runs-let S s (table S s i).0 (table S s i).1 (table-runs S s i)
