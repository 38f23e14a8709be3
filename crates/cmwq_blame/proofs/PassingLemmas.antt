-- In which instructions time passes: in a tick or a next one, where the steps aren't spent and nothing can happen without time.
use Rattle.std.proofs.Common.{◌≡◌, ℕ, ◌+◌, Bool, true, false, not, ◌&&◌, Option, Some, None, arith, refl, ap, ◌∙◌, inl, inr}
use Rattle.std.proofs.lemmas.Bool.{le-ltb, lt-ltb, not-true}
use Rattle.std.specs.Prelude.{is_none, nat_lt}
use Rattle.cmwq_types.specs.Contents.{ScenarioContents}
use Rattle.cmwq_types.specs.Setting.{IsSetting}
use Rattle.cmwq_types.specs.declared.instr.Instr.{Instr}
use Rattle.cmwq_types.specs.declared.instr.Instr.TheVariants as instr
use Rattle.cmwq_types.specs.declared.moves.Move.{Move}
use Rattle.cmwq_types.specs.declared.reply.Refusal.{Refusal}
use Rattle.cmwq_types.specs.declared.reply.Refusal.TheVariants.{Spent}
use Rattle.cmwq_types.specs.declared.reply.Reply.{Reply}
use Rattle.cmwq_types.specs.declared.reply.Reply.TheVariants as reply
use Rattle.cmwq_table.specs.Counts.{first_due, or_else}
use Rattle.cmwq_table.specs.Laws.{goes_on}
use Rattle.cmwq_table.specs.Moves.{first_moving, next_move, tick, with_depth}
use Rattle.cmwq_table.specs.State.{State, depth_at, pending_at}
use Rattle.cmwq_table.specs.Table.{answer, cancelled, delayed, effect, fired_first, is_met, modified, next, next_unless, queued, refusal, refuse_unless, step_or_tick, stepped, table, unsettled}
use Rattle.cmwq_table.specs.declared.state.Pending.{Pending}
use Rattle.cmwq_table.proofs.CounterLemmas.{set_max-takes, thaw-takes}
use Rattle.cmwq_table.proofs.GoingLemmas.{table-unmet}
use Rattle.cmwq_picture.proofs.TickLemmas.{HasTicked, table-ticks}
use Rattle.cmwq_ledger.specs.Ledger.{lets_pass}
use Rattle.cmwq_blame.specs.Table.{can_pass, is_clock}

-- Time passes from s on where the time is one later, and not where it is the same.

same-time : (s t : State) → t.time ≡ s.time → lets_pass s t ≡ false
same-time s t same = le-ltb s.time t.time (omega (arith, same))

later-time : (s t : State) → t.time ≡ s.time + 1 → lets_pass s t ≡ true
later-time s t later = lt-ltb s.time t.time (omega (arith, later))

no-tick : (S : ScenarioContents) (s : State) (i : Instr) → (HasTicked S s (table S s i).0 (table S s i).1 → ⊥) → lets_pass s (table S s i).0 ≡ false
no-tick S s i none = elim (table-ticks S s i) [ inl stays ↦ same-time s (table S s i).0 stays | inr has ↦ absurd (none has) ]

-- What may let time pass.

tick-passes : (S : ScenarioContents) (s : State) (more : Bool) (due moving : Option ℕ)
    → lets_pass s (answer S s instr.Tick (or_else (refuse_unless more Spent) (unsettled due moving)) (tick S s, reply.Done)).0 ≡ (more && (is_none due && is_none moving))
tick-passes S s false due moving = same-time s s refl
tick-passes S s true (Some w) moving = same-time s s refl
tick-passes S s true None (Some pool) = same-time s s refl
tick-passes S s true None None = later-time s (tick S s) refl

tick-lets : (S : ScenarioContents) (s : State) → lets_pass s (table S s instr.Tick).0 ≡ can_pass S s
unfolding table
tick-lets S s = tick-passes S s (nat_lt s.spent S.steps) (first_due S s) (first_moving S s)

-- the state after a next instruction, if it isn't refused for its steps
abbrev next-if : (S : ScenarioContents) (s : State) → Bool → Option ℕ → State
next-if S s more due = (answer S s instr.Next (or_else (refuse_unless more Spent) None) (next S s due)).0

next-passes : (S : ScenarioContents) (s : State) (more : Bool) (due moving : Option ℕ) → nat_lt s.spent S.steps ≡ more → first_due S s ≡ due → first_moving S s ≡ moving
    → lets_pass s (table S s instr.Next).0 ≡ (more && (is_none due && is_none moving))
unfolding table
next-passes S s false due moving spent due_is moving_is = ap (λ (b : Bool). lets_pass s (next-if S s b (first_due S s))) spent ∙ same-time s s refl
next-passes S s true (Some w) moving spent due_is moving_is = no-tick S s instr.Next (λ has. cc (has.due, due_is))
next-passes S s true None (Some pool) spent due_is moving_is = no-tick S s instr.Next (λ has. cc (has.moving, moving_is))
next-passes S s true None None spent due_is moving_is =
    (λ j. lets_pass s (next-if S s (spent j) (due_is j))) ∙ later-time s (step_or_tick S s (first_moving S s)).0 (ap (λ (o : Option ℕ). (step_or_tick S s o).0.time) moving_is)

next-lets : (S : ScenarioContents) (s : State) → lets_pass s (table S s instr.Next).0 ≡ can_pass S s
next-lets S s = next-passes S s (nat_lt s.spent S.steps) (first_due S s) (first_moving S s) refl refl refl

going-lets : (S : ScenarioContents) (s : State) (i : Instr) → goes_on i ≡ true → not (is_met S s i) ≡ true → lets_pass s (table S s i).0 ≡ can_pass S s
going-lets S s i goes e = ap (λ (after : State × Reply). lets_pass s after.0) (table-unmet S s i goes (not-true (is_met S s i) e)) ∙ next-lets S s

pub clock-lets : (S : ScenarioContents) (s : State) (i : Instr) → is_clock S s i ≡ true → lets_pass s (table S s i).0 ≡ can_pass S s
clock-lets S s instr.Tick e = tick-lets S s
clock-lets S s instr.Next e = next-lets S s
clock-lets S s (instr.Until time) e = going-lets S s (instr.Until time) refl e
clock-lets S s (instr.Wait flush) e = going-lets S s (instr.Wait flush) refl e
clock-lets S s instr.Quiet e = going-lets S s instr.Quiet refl e
clock-lets S s i e = cc

-- What only says that it is done, and is no clock, takes no time.

abbrev SaysMore : State × Reply → Type 0
SaysMore after = after.1 ≡ reply.Done → ⊥

-- what is asked of one work item
item-told : (S : ScenarioContents) (s : State) (w cpu ticks : ℕ) (o : Option Pending)
    → SaysMore (queued S s w cpu o) × SaysMore (delayed S s w cpu ticks o) × SaysMore (modified S s w cpu ticks o) × SaysMore (cancelled S s w o)
item-told S s w cpu ticks (Some p) = (λ told. cc, λ told. cc, λ told. cc, λ told. cc)
item-told S s w cpu ticks None = (λ told. cc, λ told. cc, λ told. cc, λ told. cc)

fired-told : (S : ScenarioContents) (s : State) (o : Option ℕ) → SaysMore (fired_first S s o)
fired-told S s (Some w) told = cc
fired-told S s None told = cc

stepped-told : (S : ScenarioContents) (s : State) (pool : ℕ) (o : Option Move) → SaysMore (stepped S s pool o)
stepped-told S s pool (Some move) told = cc
stepped-told S s pool None told = cc

next_unless-time : (S : ScenarioContents) (s : State) (met : Bool) → not met ≡ false → (next_unless S s met).0.time ≡ s.time
next_unless-time S s true e = refl
next_unless-time S s false e = cc

effect-time : (S : ScenarioContents) (s : State) (i : Instr) → IsSetting S → is_clock S s i ≡ false → (effect S s i).1 ≡ reply.Done → (effect S s i).0.time ≡ s.time
effect-time S s (instr.Queue w cpu) setting e told = absurd ((item-told S s w.0 cpu 0 (pending_at s w.0)).0 told)
effect-time S s (instr.Delay w cpu ticks) setting e told = absurd ((item-told S s w.0 cpu ticks (pending_at s w.0)).1 told)
effect-time S s (instr.Mod w cpu ticks) setting e told = absurd ((item-told S s w.0 cpu ticks (pending_at s w.0)).2 told)
effect-time S s (instr.Cancel w) setting e told = absurd ((item-told S s w.0 0 0 (pending_at s w.0)).3 told)
effect-time S s (instr.SetMax q max) setting e told = (set_max-takes S s q.0 max setting).time
effect-time S s instr.Freeze setting e told = refl
effect-time S s instr.Thaw setting e told = (thaw-takes S s setting).time
effect-time S s instr.Fire setting e told = absurd (fired-told S s (first_due S s) told)
effect-time S s (instr.Step pool) setting e told = absurd (stepped-told S s pool (next_move S s pool) told)
effect-time S s (instr.Ask flush) setting e told = refl
effect-time S s instr.Busy setting e told = refl
effect-time S s (instr.Disable w) setting e told = absurd ((item-told S (with_depth s w.0 (depth_at s w.0 + 1)) w.0 0 0 (pending_at s w.0)).3 told)
effect-time S s (instr.Enable w) setting e told = refl
effect-time S s instr.Pressure setting e told = refl
effect-time S s instr.Relief setting e told = refl
effect-time S s (instr.Until time) setting e told = next_unless-time S s (is_met S s (instr.Until time)) e
effect-time S s (instr.Wait flush) setting e told = next_unless-time S s (is_met S s (instr.Wait flush)) e
effect-time S s instr.Quiet setting e told = next_unless-time S s (is_met S s instr.Quiet) e
effect-time S s i setting e told = cc

answer-time : (S : ScenarioContents) (s : State) (i : Instr) (o : Option Refusal) → IsSetting S → is_clock S s i ≡ false → (answer S s i o (effect S s i)).1 ≡ reply.Done
    → (answer S s i o (effect S s i)).0.time ≡ s.time
answer-time S s i (Some why) setting e told = refl
answer-time S s i None setting e told = effect-time S s i setting e told

pub other-lets : (S : ScenarioContents) (s : State) (i : Instr) → IsSetting S → is_clock S s i ≡ false → lets_pass s (table S s i).0 ≡ false
unfolding table
other-lets S s i setting e =
    elim (table-ticks S s i) [
      | inl stays ↦ same-time s (table S s i).0 stays
      | inr has ↦ same-time s (table S s i).0 (answer-time S s i (refusal S s i) setting e has.told)
    ]
