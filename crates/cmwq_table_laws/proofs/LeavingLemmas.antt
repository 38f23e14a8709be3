-- What leaves all as it was, but for what is spent.
use Rattle.std.proofs.Common.{◌≡◌, ℕ, ◌+◌, ◌-◌, Bool, true, false, Option, Some, None, arith, refl, sym, ap, ◌∙◌}
use Rattle.std.specs.Prelude.{if◌then◌else◌, ◌==◌}
use Rattle.cmwq_types.specs.Contents.{ScenarioContents}
use Rattle.cmwq_types.specs.declared.instr.Instr.{Instr}
use Rattle.cmwq_types.specs.declared.instr.Instr.TheVariants as instr
use Rattle.cmwq_types.specs.declared.instr.WorkId.{WorkId}
use Rattle.cmwq_types.specs.declared.moves.Move.{Move}
use Rattle.cmwq_types.specs.declared.reply.Refusal.{Refusal}
use Rattle.cmwq_types.specs.declared.reply.Reply.{Reply}
use Rattle.cmwq_types.specs.declared.reply.Reply.TheVariants as reply
use Rattle.cmwq_table.specs.declared.state.Pending.{Pending}
use Rattle.cmwq_table.specs.Counts.{first_due, or_else}
use Rattle.cmwq_table.specs.Laws.{goes_on}
use Rattle.cmwq_table.specs.Moves.{first_moving, next_move, with_depth}
use Rattle.cmwq_table.specs.State.{State, depth_at, pending_at}
use Rattle.cmwq_table.specs.Table.{answer, cancelled, delayed, disabled, effect, fired_first, is_free, is_met, is_question, modified, next, next_unless, operands, queued, refusal, situation, spent_all, step_or_tick, stepped, table, yes_or_no}
use Rattle.cmwq_table.proofs.GoingLemmas.{table-met, table-unmet}
use Rattle.cmwq_table_laws.specs.Repeating.{LeavesAll, stays_in_place, tells_nothing_done}

-- An effect that is told so is none.

-- nothing was done where the reply tells so
abbrev LeavesState : State → Instr → State × Reply → Type 0
LeavesState s i after = tells_nothing_done i after.1 ≡ true → after.0 ≡ s

queued-leaves : (S : ScenarioContents) (s : State) (w : WorkId) (cpu : ℕ) (o : Option Pending) → LeavesState s (instr.Queue w cpu) (queued S s w.0 cpu o)
queued-leaves S s w cpu (Some p) told = refl
queued-leaves S s w cpu None told = cc

delayed-leaves : (S : ScenarioContents) (s : State) (w : WorkId) (cpu ticks : ℕ) (o : Option Pending)
    → LeavesState s (instr.Delay w cpu ticks) (delayed S s w.0 cpu ticks o)
delayed-leaves S s w cpu ticks (Some p) told = refl
delayed-leaves S s w cpu ticks None told = cc

modified-leaves : (S : ScenarioContents) (s : State) (w : WorkId) (cpu ticks : ℕ) (o : Option Pending)
    → LeavesState s (instr.Mod w cpu ticks) (modified S s w.0 cpu ticks o)
modified-leaves S s w cpu ticks (Some p) told = cc
modified-leaves S s w cpu ticks None told = cc

cancelled-leaves : (S : ScenarioContents) (s : State) (w : WorkId) (o : Option Pending) → LeavesState s (instr.Cancel w) (cancelled S s w.0 o)
cancelled-leaves S s w (Some p) told = cc
cancelled-leaves S s w None told = refl

disabled-leaves : (S : ScenarioContents) (s : State) (w : WorkId) (o : Option Pending) → LeavesState s (instr.Disable w) (disabled S s w.0 o)
disabled-leaves S s w (Some p) told = cc
disabled-leaves S s w None told = cc

answer-leaves : (s t : State) (w : WorkId) (holds : Bool) → LeavesState s (instr.Enable w) (t, yes_or_no holds)
answer-leaves s t w true told = cc
answer-leaves s t w false told = cc

fired-leaves : (S : ScenarioContents) (s : State) (i : Instr) (o : Option ℕ) → is_question i ≡ false → LeavesState s i (fired_first S s o)
fired-leaves S s i (Some w) asks told = (let no : false ≡ true = sym asks ∙ told in cc)
fired-leaves S s i None asks told = refl

stepped-leaves : (S : ScenarioContents) (s : State) (i : Instr) (pool : ℕ) (o : Option Move) → is_question i ≡ false → LeavesState s i (stepped S s pool o)
stepped-leaves S s i pool (Some move) asks told = (let no : false ≡ true = sym asks ∙ told in cc)
stepped-leaves S s i pool None asks told = refl

step_or_tick-leaves : (S : ScenarioContents) (s : State) (i : Instr) (o : Option ℕ) → is_question i ≡ false → LeavesState s i (step_or_tick S s o)
step_or_tick-leaves S s i (Some pool) asks told = stepped-leaves S s i pool (next_move S s pool) asks told
step_or_tick-leaves S s i None asks told = (let no : false ≡ true = sym asks ∙ told in cc)

next-leaves : (S : ScenarioContents) (s : State) (i : Instr) (o : Option ℕ) → is_question i ≡ false → LeavesState s i (next S s o)
next-leaves S s i (Some w) asks told = fired-leaves S s i (Some w) asks told
next-leaves S s i None asks told = step_or_tick-leaves S s i (first_moving S s) asks told

next_unless-leaves : (S : ScenarioContents) (s : State) (i : Instr) (met : Bool) → is_question i ≡ false → LeavesState s i (next_unless S s met)
next_unless-leaves S s i true asks told = refl
next_unless-leaves S s i false asks told = next-leaves S s i (first_due S s) asks told

effect-leaves : (S : ScenarioContents) (s : State) (i : Instr) → LeavesState s i (effect S s i)
effect-leaves S s (instr.Queue w cpu) = queued-leaves S s w cpu (pending_at s w.0)
effect-leaves S s (instr.Delay w cpu ticks) = delayed-leaves S s w cpu ticks (pending_at s w.0)
effect-leaves S s (instr.Mod w cpu ticks) = modified-leaves S s w cpu ticks (pending_at s w.0)
effect-leaves S s (instr.Cancel w) = cancelled-leaves S s w (pending_at s w.0)
effect-leaves S s instr.Fire = fired-leaves S s instr.Fire (first_due S s) refl
effect-leaves S s (instr.Step pool) = stepped-leaves S s (instr.Step pool) pool (next_move S s pool) refl
effect-leaves S s instr.Next = next-leaves S s instr.Next (first_due S s) refl
effect-leaves S s (instr.Ask flush) = λ told. refl
effect-leaves S s instr.Busy = λ told. refl
effect-leaves S s (instr.State w) = λ told. refl
effect-leaves S s (instr.Disable w) = disabled-leaves S s w (pending_at s w.0)
effect-leaves S s (instr.Enable w) = answer-leaves s (with_depth s w.0 (depth_at s w.0 - 1)) w ((depth_at s w.0 - 1) == 0)
effect-leaves S s (instr.Until time) = next_unless-leaves S s (instr.Until time) (is_met S s (instr.Until time)) refl
effect-leaves S s (instr.Wait flush) = next_unless-leaves S s (instr.Wait flush) (is_met S s (instr.Wait flush)) refl
effect-leaves S s instr.Quiet = next_unless-leaves S s instr.Quiet (is_met S s instr.Quiet) refl
effect-leaves S s i = λ told. cc

-- And so a line leaves all but what is spent.

-- but for what is spent the state is this one
abbrev pub IsBefore : State → State → Type 0
IsBefore s t = t ≡ record s { spent = t.spent }

line-leaves : (S : ScenarioContents) (s : State) (i : Instr) (a : Option Refusal) (after : State × Reply) → LeavesState s i after
    → tells_nothing_done i (answer S s i a after).1 ≡ true → IsBefore s (answer S s i a after).0
line-leaves S s i (Some why) after leaves told = refl
line-leaves S s i None after leaves told =
    ap (λ (t : State). record t { spent = after.0.spent + (if is_free S s i then 0 else 1) }) (leaves told)

pub leaves_all : (S : ScenarioContents) (s : State) (i : Instr) → LeavesAll S s i
unfolding LeavesAll table
leaves_all S s i = line-leaves S s i (refusal S s i) (effect S s i) (effect-leaves S s i)

-- What goes on for something, and is Done while no time passes, was there already.

stepped-ticks : (S : ScenarioContents) (s : State) (pool : ℕ) (o : Option Move) → (stepped S s pool o).1 ≡ reply.Done → (stepped S s pool o).0.time ≡ s.time + 1
stepped-ticks S s pool (Some move) done = cc
stepped-ticks S s pool None done = cc

step_or_tick-ticks : (S : ScenarioContents) (s : State) (o : Option ℕ) → (step_or_tick S s o).1 ≡ reply.Done → (step_or_tick S s o).0.time ≡ s.time + 1
step_or_tick-ticks S s (Some pool) done = stepped-ticks S s pool (next_move S s pool) done
step_or_tick-ticks S s None done = refl

next-ticks : (S : ScenarioContents) (s : State) (o : Option ℕ) → (next S s o).1 ≡ reply.Done → (next S s o).0.time ≡ s.time + 1
next-ticks S s (Some w) done = cc
next-ticks S s None done = step_or_tick-ticks S s (first_moving S s) done

line-ticks : (S : ScenarioContents) (s : State) (a : Option Refusal) → (answer S s instr.Next a (next S s (first_due S s))).1 ≡ reply.Done
    → (answer S s instr.Next a (next S s (first_due S s))).0.time ≡ s.time + 1
line-ticks S s (Some why) done = cc
line-ticks S s None done = next-ticks S s (first_due S s) done

-- a `next` that is Done was a tick
table-ticks : (S : ScenarioContents) (s : State) → (table S s instr.Next).1 ≡ reply.Done → (table S s instr.Next).0.time ≡ s.time + 1
unfolding table
table-ticks S s done = line-ticks S s (refusal S s instr.Next) done

met-leaves : (S : ScenarioContents) (s : State) (i : Instr) (a : Option Refusal) → operands S s i ≡ a → is_met S s i ≡ true → (table S s i).0 ≡ s
unfolding table
met-leaves S s i (Some why) is met = ap (λ (o : Option Refusal). (answer S s i (or_else o (or_else (spent_all S s i) (situation S s i))) (effect S s i)).0) is
met-leaves S s i None is met = ap (λ (after : State × Reply). after.0) (table-met S s i is met)

goes_on-leaves : (S : ScenarioContents) (s : State) (i : Instr) (met : Bool) → is_met S s i ≡ met → goes_on i ≡ true → (table S s i).1 ≡ reply.Done
    → (table S s i).0.time ≡ s.time → (table S s i).0 ≡ s
goes_on-leaves S s i true is goes done still = met-leaves S s i (operands S s i) refl is
goes_on-leaves S s i false is goes done still =
    let next : table S s i ≡ table S s instr.Next = table-unmet S s i goes is in
    let ticked : (table S s i).0.time ≡ s.time + 1 =
    ap (λ (after : State × Reply). after.0.time) next ∙ table-ticks S s (sym (ap (λ (after : State × Reply). after.1) next) ∙ done)
    in
    absurd (omega (arith, ticked, still))

-- what is repeated in place leaves all but what is spent, each time
pub place-leaves : (S : ScenarioContents) (s : State) (i : Instr) (r : Reply) → (table S s i).1 ≡ r → (table S s i).0.time ≡ s.time
    → stays_in_place i r ≡ true → IsBefore s (table S s i).0
unfolding LeavesAll
place-leaves S s i reply.Done is still stays =
    let same : (table S s i).0 ≡ s = goes_on-leaves S s i (is_met S s i) refl stays is still in
    same ∙ ap (λ (spent : ℕ). record s { spent = spent }) (sym (ap (λ (t : State). t.spent) same))
place-leaves S s i other is still stays = leaves_all S s i (ap (tells_nothing_done i) is ∙ stays)
