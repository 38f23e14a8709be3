-- What an event of a step says: the operation that a body has carried out; and what holds of it, holds of the state after the step.
use Rattle.std.proofs.Common.{◌≡◌, ◌⊎◌, inl, inr, ℕ, Bool, true, false, cond, List, Option, Some, None, refl, sym, ap, ◌∙◌, subst}
use Rattle.cmwq_types.specs.Contents.{ScenarioContents}
use Rattle.cmwq_types.specs.Scenario.{local_cpu, op_at}
use Rattle.cmwq_types.specs.declared.instr.Instr.{Instr}
use Rattle.cmwq_types.specs.declared.instr.Instr.TheVariants as instr
use Rattle.cmwq_types.specs.declared.instr.WorkId.{WorkId}
use Rattle.cmwq_types.specs.declared.moves.Move.{Move}
use Rattle.cmwq_types.specs.declared.moves.Move.TheVariants.{Advance}
use Rattle.cmwq_types.specs.declared.reply.Event.{Event}
use Rattle.cmwq_types.specs.declared.reply.Event.TheVariants as event
use Rattle.cmwq_types.specs.declared.reply.Reply.{Reply}
use Rattle.cmwq_types.specs.declared.reply.Reply.TheVariants as reply
use Rattle.cmwq_types.specs.declared.scenario.Op.{Op}
use Rattle.cmwq_types.specs.declared.scenario.Op.TheVariants as op
use Rattle.cmwq_table.specs.Counts.{first_due, is_deferred}
use Rattle.cmwq_table.specs.Laws.{reply_to, state_after}
use Rattle.cmwq_table.specs.Moves.{advance, begin_again, carry_out, come_to_end, delay_from_body, first_moving, mod_from_body, moved, moved_work, next_move, onward, queue_from_body, retire}
use Rattle.cmwq_table.specs.State.{State, is_disabled, pending_at, running_at}
use Rattle.cmwq_table.specs.Table.{effect, next, step_or_tick, stepped}
use Rattle.cmwq_table.specs.declared.state.Pending.{Pending}
use Rattle.cmwq_table.specs.declared.state.Running.{Running}
use Rattle.cmwq_table_laws.proofs.AcceptingLemmas.{at-effect}

-- The operation.

-- what the event says of the operation of a body; one that queues a work item is told without its CPU, and no operation fires a timer
abbrev pub Says : Event → Op → Type 0
Says (event.Delays v ticks already) o = o ≡ op.Delay v ticks
Says (event.Mods v ticks changed) o = o ≡ op.Mod v ticks
Says (event.Cancels v was) o = o ≡ op.Cancel v
Says event.Fires o = ⊥
Says other o = Unit {0}

module _ (S : ScenarioContents) (s : State) (w : ℕ) (r : Running) where
  queues : (v : WorkId) (cpu : ℕ) (b : Bool) (p : Option Pending) → Says (queue_from_body S (onward s w r) v cpu b p).1 (op.Queue v cpu)
  queues v cpu true p = tt
  queues v cpu false (Some p) = tt
  queues v cpu false None = tt

  delays : (v : WorkId) (cpu ticks : ℕ) (b : Bool) (p : Option Pending) → Says (delay_from_body S (onward s w r) v cpu ticks b p).1 (op.Delay v ticks)
  delays v cpu ticks true p = tt
  delays v cpu ticks false (Some p) = refl
  delays v cpu ticks false None = refl

  mods : (v : WorkId) (cpu ticks : ℕ) (b : Bool) (p : Option Pending) → Says (mod_from_body S (onward s w r) v cpu ticks b p).1 (op.Mod v ticks)
  mods v cpu ticks true p = tt
  mods v cpu ticks false p = refl

  ends : (p : Pending) (b : Bool) → Says (cond {A = State × Event} b (begin_again s w r p, event.FinishesAndStarts) (retire s w r, event.Finishes)).1 op.Finish
  ends p true = tt
  ends p false = tt

  finishes : (o : Option Pending) → Says (come_to_end s w r o).1 op.Finish
  finishes (Some p) = ends p (is_deferred p.place)
  finishes None = tt

  says : (o : Op) → Says (carry_out S s w r o).1 o
  says (op.Burn ticks) = tt
  says (op.Sleep ticks) = tt
  says (op.Queue v cpu) = queues v cpu (is_disabled s v.0) (pending_at s v.0)
  says op.Finish = finishes (pending_at s w)
  says (op.Delay v ticks) = delays v (local_cpu S r.pool) ticks (is_disabled s v.0) (pending_at s v.0)
  says (op.Mod v ticks) = mods v (local_cpu S r.pool) ticks (is_disabled s v.0) (pending_at s v.0)
  says (op.Cancel v) = refl

-- The step.

-- a body has asked for a work item or has taken one off, or a timer has fired
abbrev pub asks_or_fires : Event → Bool
asks_or_fires (event.Queues other already) = true
asks_or_fires (event.QueuesDisabled other) = true
asks_or_fires (event.Delays other ticks already) = true
asks_or_fires (event.DelaysDisabled other ticks) = true
asks_or_fires (event.Mods other ticks changed) = true
asks_or_fires (event.ModsDisabled other ticks) = true
asks_or_fires (event.Cancels other was) = true
asks_or_fires event.Fires = true
asks_or_fires e = false

-- Such an event of a step is that of the operation of a body. If what holds then holds of what the operation leaves pending, it holds of the state after the step.
module _ (S : ScenarioContents) (s : State) (work : WorkId) (e : Event) (asks : asks_or_fires e ≡ true) (Q : List (Option Pending) → Type 0)
    (carries : (r : Running) (o : Op) → running_at s work.0 ≡ Some r → op_at S work.0 r.pc ≡ o → Says e o → (carry_out S s work.0 r o).1 ≡ e → Q (carry_out S s work.0 r o).0.pending) where
  advances : (o : Option Running) → running_at s work.0 ≡ o → (advance S s work.0 o).1 ≡ e → Q (advance S s work.0 o).0.pending
  advances (Some r) is told =
      let o = op_at S work.0 r.pc in
      carries r o is refl (subst (λ (x : Event). Says x o) told (says S s work.0 r o)) told
  advances None is told = (let no : false ≡ true = ap asks_or_fires told ∙ asks in absurd cc)

  moves : (pool : ℕ) (move : Move) → moved_work move ≡ work → (moved S s pool move).1 ≡ e → Q (moved S s pool move).0.pending
  moves pool (Advance v) same =
      subst (λ (x : WorkId). (advance S s x.0 (running_at s x.0)).1 ≡ e → Q (advance S s x.0 (running_at s x.0)).0.pending) (sym same) (advances (running_at s work.0) refl)
  moves pool move same = λ told. (let no : false ≡ true = ap asks_or_fires told ∙ asks in absurd cc)

  at-step : (pool : ℕ) (o : Option Move) → (stepped S s pool o).1 ≡ reply.Event work e → Q (stepped S s pool o).0.pending
  at-step pool (Some move) told =
      let same : moved_work move ≡ work = cc in
      let does : (moved S s pool move).1 ≡ e = cc in
      moves pool move same does
  at-step pool None told = absurd cc

  pub at-move : (o : Option ℕ) → (step_or_tick S s o).1 ≡ reply.Event work e → Q (step_or_tick S s o).0.pending
  at-move (Some pool) told = at-step pool (next_move S s pool) told
  at-move None told = absurd cc

  module _ (fires : e ≡ event.Fires → ⊥) where
    at-next : (o : Option ℕ) → (next S s o).1 ≡ reply.Event work e → Q (next S s o).0.pending
    at-next (Some v) told = (let is : e ≡ event.Fires = cc in absurd (fires is))
    at-next None told = at-move (first_moving S s) told

    -- what holds of an instruction's effect, if its reply has the event
    abbrev Then : Instr → Type 0
    Then i = (effect S s i).1 ≡ reply.Event work e → Q (effect S s i).0.pending

    then : (pool : ℕ) (i : Instr) → (i ≡ instr.Step pool) ⊎ (i ≡ instr.Next) → Then i
    then pool i (inl same) = subst Then (sym same) (at-step pool (next_move S s pool))
    then pool i (inr same) = subst Then (sym same) (at-next (first_due S s))

    pub at-instruction : (pool : ℕ) (i : Instr) → (i ≡ instr.Step pool) ⊎ (i ≡ instr.Next) → reply_to S s i ≡ reply.Event work e → Q (state_after S s i).pending
    at-instruction pool i which told =
        at-effect S s i (λ (r : Reply) (pending : List (Option Pending)). r ≡ reply.Event work e → Q pending) (λ why refused. (let no : reply.Event work e ≡ reply.Refused why = sym told ∙ refused in cc))
        (then pool i which) told
