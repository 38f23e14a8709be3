-- What an instruction that isn't refused comes to.
use Rattle.std.proofs.Common.{◌≡◌, Bool, true, false, List, Option, Some, None, refl, sym, ap, subst}
use Rattle.std.specs.Prelude.{◌≢◌}
use Rattle.cmwq_types.specs.Contents.{ScenarioContents}
use Rattle.cmwq_types.specs.declared.instr.Instr.{Instr}
use Rattle.cmwq_types.specs.declared.reply.Refusal.{Refusal}
use Rattle.cmwq_types.specs.declared.reply.Reply.{Reply}
use Rattle.cmwq_types.specs.declared.reply.Reply.TheVariants as reply
use Rattle.cmwq_table.specs.Counts.{or_else}
use Rattle.cmwq_table.specs.Laws.{reply_to, state_after}
use Rattle.cmwq_table.specs.State.{State}
use Rattle.cmwq_table.specs.declared.state.Pending.{Pending}
use Rattle.cmwq_table.specs.Table.{answer, effect, operands, refusal, refuse_unless, situation, spent_all, spending, table, is_free}

none-if : (S : ScenarioContents) (s : State) (i : Instr) (o : Option Refusal) (after : State × Reply) → ((why : Refusal) → (answer S s i o after).1 ≢ reply.Refused why) → o ≡ None
none-if S s i (Some why) after accepted = absurd (accepted why refl)
none-if S s i None after accepted = refl

-- what is accepted has no refusal
pub accepted-none : (S : ScenarioContents) (s : State) (i : Instr) → ((why : Refusal) → reply_to S s i ≢ reply.Refused why) → refusal S s i ≡ None
unfolding table
accepted-none S s i accepted = none-if S s i (refusal S s i) (effect S s i) accepted

-- then its effect is carried out
pub carried-out : (S : ScenarioContents) (s : State) (i : Instr) → refusal S s i ≡ None → table S s i ≡ spending (is_free S s i) (effect S s i)
unfolding table
carried-out S s i none = ap (λ (o : Option Refusal). answer S s i o (effect S s i)) none

-- what holds of the effect, holds of what the instruction comes to
pub at-effect : (S : ScenarioContents) (s : State) (i : Instr) (Q : Reply → List (Option Pending) → Type 0) → ((why : Refusal) → reply_to S s i ≢ reply.Refused why)
    → Q (effect S s i).1 (effect S s i).0.pending → Q (reply_to S s i) (state_after S s i).pending
at-effect S s i Q accepted = subst (λ (after : State × Reply). Q after.1 after.0.pending) (sym (carried-out S s i (accepted-none S s i accepted)))

first-none : (a b : Option Refusal) → or_else a b ≡ None → a ≡ None
first-none (Some why) b e = cc
first-none None b e = refl

last-none : (a b : Option Refusal) → or_else a b ≡ None → b ≡ None
last-none (Some why) b e = cc
last-none None b e = e

-- and its operands and the situation are fit
pub operands-fit : (S : ScenarioContents) (s : State) (i : Instr) → refusal S s i ≡ None → operands S s i ≡ None
operands-fit S s i none = first-none (operands S s i) (or_else (spent_all S s i) (situation S s i)) none

pub situation-fits : (S : ScenarioContents) (s : State) (i : Instr) → refusal S s i ≡ None → situation S s i ≡ None
situation-fits S s i none =
    last-none (spent_all S s i) (situation S s i) (last-none (operands S s i) (or_else (spent_all S s i) (situation S s i)) none)

pub granted : (b : Bool) (why : Refusal) → refuse_unless b why ≡ None → b ≡ true
granted true why e = refl
granted false why e = cc
