-- A refused instruction changes nothing, and neither does a question.
use Rattle.std.proofs.Common.{◌≡◌, ℕ, ◌+◌, ◌-◌, Bool, true, false, Option, Some, None, arith, refl, ap}
use Rattle.std.specs.Prelude.{is_some, nat_lt, ◌==◌}
use Rattle.cmwq_types.proofs.FirstLemmas.{by_least-order, first_below-is_first}
use Rattle.cmwq_types.specs.Contents.{ScenarioContents}
use Rattle.cmwq_types.specs.First.{MatchFirst}
use Rattle.cmwq_types.specs.declared.instr.Instr.{Instr}
use Rattle.cmwq_types.specs.declared.instr.Instr.TheVariants as instr
use Rattle.cmwq_types.specs.declared.moves.Move.{Move}
use Rattle.cmwq_types.specs.declared.reply.Refusal.{Refusal}
use Rattle.cmwq_types.specs.declared.reply.Reply.{Reply}
use Rattle.cmwq_types.specs.declared.reply.Reply.TheVariants as reply
use Rattle.cmwq_table.specs.declared.state.Pending.{Pending}
use Rattle.cmwq_table.specs.Counts.{first_due, is_busy, is_done}
use Rattle.cmwq_table.specs.Counts as counts
use Rattle.cmwq_table.specs.Laws.{AtEveryInstruction, ChangesNothingAsked, ChangesNothingRefused}
use Rattle.cmwq_table.specs.Moves.{first_moving, next_move, with_depth}
use Rattle.cmwq_table.specs.State.{State, depth_at, pending_at, pool_count}
use Rattle.cmwq_table.specs.Table.{answer, cancelled, delayed, disabled, effect, fired_first, is_free, is_met, is_question, modified, next, next_unless, nothing_to_do, operands, queued, run, situation, spending, spent_all, step_or_tick, stepped, table, target_at, yes_or_no}

-- The reply is no refusal.
abbrev IsTold : Reply → Type 0
IsTold r = (why : Refusal) → r ≡ reply.Refused why → ⊥

queued-told : (S : ScenarioContents) (s : State) (w cpu : ℕ) (o : Option Pending) → IsTold (queued S s w cpu o).1
queued-told S s w cpu (Some p) why e = cc
queued-told S s w cpu None why e = cc

delayed-told : (S : ScenarioContents) (s : State) (w cpu ticks : ℕ) (o : Option Pending) → IsTold (delayed S s w cpu ticks o).1
delayed-told S s w cpu ticks (Some p) why e = cc
delayed-told S s w cpu ticks None why e = cc

modified-told : (S : ScenarioContents) (s : State) (w cpu ticks : ℕ) (o : Option Pending) → IsTold (modified S s w cpu ticks o).1
modified-told S s w cpu ticks (Some p) why e = cc
modified-told S s w cpu ticks None why e = cc

cancelled-told : (S : ScenarioContents) (s : State) (w : ℕ) (o : Option Pending) → IsTold (cancelled S s w o).1
cancelled-told S s w (Some p) why e = cc
cancelled-told S s w None why e = cc

disabled-told : (S : ScenarioContents) (s : State) (w : ℕ) (o : Option Pending) → IsTold (disabled S s w o).1
disabled-told S s w o = cancelled-told S (with_depth s w (depth_at s w + 1)) w o

answer-told : (holds : Bool) → IsTold (yes_or_no holds)
answer-told true why e = cc
answer-told false why e = cc

fired-told : (S : ScenarioContents) (s : State) (o : Option ℕ) → nothing_to_do o ≡ None → IsTold (fired_first S s o).1
fired-told S s (Some w) some why e = cc
fired-told S s None some why e = cc

stepped-told : (S : ScenarioContents) (s : State) (pool : ℕ) (o : Option Move) → nothing_to_do o ≡ None → IsTold (stepped S s pool o).1
stepped-told S s pool (Some move) some why e = cc
stepped-told S s pool None some why e = cc

-- the pool that moves first has a move

passes : (test : ℕ → Bool) (n : ℕ) (o : Option ℕ) → MatchFirst (λ v w. nat_lt v w) test n o → (m : ℕ) → o ≡ Some m → test m ≡ true
passes test n (Some k) first m e = let same : k ≡ m = cc in rw (← same) first.passes
passes test n None none m e = cc

something : {A : Type 0} (o : Option A) → is_some o ≡ true → nothing_to_do o ≡ None
something (Some x) e = refl
something None e = cc

moves : (S : ScenarioContents) (s : State) (pool : ℕ) → first_moving S s ≡ Some pool → nothing_to_do (next_move S s pool) ≡ None
moves S s pool e =
    let first : MatchFirst (λ v w. nat_lt v w) (λ at. is_some (next_move S s at)) (pool_count S) (first_moving S s) =
    first_below-is_first (λ v w. nat_lt v w) (λ at. is_some (next_move S s at)) (pool_count S) (by_least-order (λ at. at)) in
    something (next_move S s pool) (passes (λ at. is_some (next_move S s at)) (pool_count S) (first_moving S s) first pool e)

stepped_or_ticked-told : (S : ScenarioContents) (s : State) (o : Option ℕ) → first_moving S s ≡ o → IsTold (step_or_tick S s o).1
stepped_or_ticked-told S s (Some pool) is why e = stepped-told S s pool (next_move S s pool) (moves S s pool is) why e
stepped_or_ticked-told S s None is why e = cc

next-told : (S : ScenarioContents) (s : State) (o : Option ℕ) → IsTold (next S s o).1
next-told S s (Some w) why e = cc
next-told S s None why e = stepped_or_ticked-told S s (first_moving S s) refl why e

next_unless-told : (S : ScenarioContents) (s : State) (met : Bool) → IsTold (next_unless S s met).1
next_unless-told S s true why e = cc
next_unless-told S s false why e = next-told S s (first_due S s) why e

-- What has no refusal in the table is told by another reply.
effect-told : (S : ScenarioContents) (s : State) (i : Instr) → situation S s i ≡ None → IsTold (effect S s i).1
effect-told S s (instr.Queue w cpu) fits = queued-told S s w.0 cpu (pending_at s w.0)
effect-told S s (instr.Delay w cpu ticks) fits = delayed-told S s w.0 cpu ticks (pending_at s w.0)
effect-told S s (instr.Mod w cpu ticks) fits = modified-told S s w.0 cpu ticks (pending_at s w.0)
effect-told S s (instr.Cancel w) fits = cancelled-told S s w.0 (pending_at s w.0)
effect-told S s (instr.CancelSync w) fits = λ why e. cc
effect-told S s (instr.Flush w) fits = λ why e. cc
effect-told S s (instr.FlushDelayed w) fits = λ why e. cc
effect-told S s (instr.FlushQueue q) fits = λ why e. cc
effect-told S s (instr.SetMax q max) fits = λ why e. cc
effect-told S s instr.Freeze fits = λ why e. cc
effect-told S s instr.Thaw fits = λ why e. cc
effect-told S s instr.Fire fits = fired-told S s (first_due S s) fits
effect-told S s (instr.Step pool) fits = stepped-told S s pool (next_move S s pool) fits
effect-told S s instr.Tick fits = λ why e. cc
effect-told S s instr.Next fits = next-told S s (first_due S s)
effect-told S s (instr.Ask flush) fits = answer-told (is_done S s (target_at s flush))
effect-told S s instr.Busy fits = answer-told (is_busy S s)
effect-told S s (instr.State w) fits = λ why e. cc
effect-told S s (instr.Disable w) fits = disabled-told S s w.0 (pending_at s w.0)
effect-told S s (instr.Enable w) fits = answer-told ((depth_at s w.0 - 1) == 0)
effect-told S s instr.Pressure fits = λ why e. cc
effect-told S s instr.Relief fits = λ why e. cc
effect-told S s (instr.Until time) fits = next_unless-told S s (is_met S s (instr.Until time))
effect-told S s (instr.Wait flush) fits = next_unless-told S s (is_met S s (instr.Wait flush))
effect-told S s instr.Quiet fits = next_unless-told S s (is_met S s instr.Quiet)

-- A refusal of the table's is given with the state as it was.
pub refused-same : (S : ScenarioContents) (s : State) (i : Instr) (a b c : Option Refusal) → situation S s i ≡ c → (why : Refusal)
    → (answer S s i (counts.or_else a (counts.or_else b c)) (effect S s i)).1 ≡ reply.Refused why
    → (answer S s i (counts.or_else a (counts.or_else b c)) (effect S s i)).0 ≡ s
refused-same S s i (Some x) b c is why e = refl
refused-same S s i None (Some x) c is why e = refl
refused-same S s i None None (Some x) is why e = refl
refused-same S s i None None None is why e = absurd (effect-told S s i is why e)

pub changes_nothing_refused : AtEveryInstruction ChangesNothingRefused
unfolding ChangesNothingRefused table
changes_nothing_refused S valid instrs i why e =
    let s = run S instrs in
    refused-same S s i (operands S s i) (spent_all S s i) (situation S s i) refl why e

-- Questions, and what has what it goes on for.

spends-nothing : (s : State) → record s { spent = s.spent + 0 } ≡ s
spends-nothing s = ap (λ (spent : ℕ). record s { spent = spent }) (omega arith)

met-same : (S : ScenarioContents) (s : State) (met : Bool) → met ≡ true → (spending met (next_unless S s met)).0 ≡ s
met-same S s true e = spends-nothing s
met-same S s false e = cc

pub free-same : (S : ScenarioContents) (s : State) (i : Instr) → is_free S s i ≡ true → (a : Option Refusal) → (answer S s i a (effect S s i)).0 ≡ s
free-same S s i free (Some why) = refl
free-same S s (instr.Ask flush) free None = spends-nothing s
free-same S s instr.Busy free None = spends-nothing s
free-same S s (instr.State w) free None = spends-nothing s
free-same S s (instr.Queue w cpu) free None = cc
free-same S s (instr.Delay w cpu ticks) free None = cc
free-same S s (instr.Mod w cpu ticks) free None = cc
free-same S s (instr.Cancel w) free None = cc
free-same S s (instr.CancelSync w) free None = cc
free-same S s (instr.Flush w) free None = cc
free-same S s (instr.FlushDelayed w) free None = cc
free-same S s (instr.FlushQueue q) free None = cc
free-same S s (instr.SetMax q max) free None = cc
free-same S s instr.Freeze free None = cc
free-same S s instr.Thaw free None = cc
free-same S s instr.Fire free None = cc
free-same S s (instr.Step pool) free None = cc
free-same S s instr.Tick free None = cc
free-same S s instr.Next free None = cc
free-same S s (instr.Disable w) free None = cc
free-same S s (instr.Enable w) free None = cc
free-same S s instr.Pressure free None = cc
free-same S s instr.Relief free None = cc
free-same S s (instr.Until time) free None = met-same S s (is_met S s (instr.Until time)) free
free-same S s (instr.Wait flush) free None = met-same S s (is_met S s (instr.Wait flush)) free
free-same S s instr.Quiet free None = met-same S s (is_met S s instr.Quiet) free

pub asked-free : (S : ScenarioContents) (s : State) (i : Instr) → is_question i ≡ true → is_free S s i ≡ true
asked-free S s i asked = rw asked refl

pub changes_nothing_asked : AtEveryInstruction ChangesNothingAsked
unfolding ChangesNothingAsked table
changes_nothing_asked S valid instrs i asked =
    let s = run S instrs in
    free-same S s i (asked-free S s i asked) (counts.or_else (operands S s i) (counts.or_else (spent_all S s i) (situation S s i)))
