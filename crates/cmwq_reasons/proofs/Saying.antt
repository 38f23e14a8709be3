-- What the event of a body's operation says: it is of no pending half, and a work item that it says was taken off, the operation takes off.
-- So a move of the machine takes off no work item that no body takes off.
use Rattle.std.proofs.Common.{◌≡◌, ℕ, Bool, true, false, cond, Option, Some, None, refl, sym, ap, ◌∙◌}
use Rattle.std.proofs.lemmas.Bool.{eq-eqb}
use Rattle.std.specs.Prelude.{◌==◌}
use Rattle.cmwq_types.specs.Contents.{ScenarioContents}
use Rattle.cmwq_types.specs.Scenario.{local_cpu, op_at}
use Rattle.cmwq_types.specs.declared.instr.Instr.{Instr}
use Rattle.cmwq_types.specs.declared.instr.Instr.TheVariants as instr
use Rattle.cmwq_types.specs.declared.instr.WorkId.{WorkId}
use Rattle.cmwq_types.specs.declared.moves.Move.{Move}
use Rattle.cmwq_types.specs.declared.moves.Move.TheVariants.{Advance}
use Rattle.cmwq_types.specs.declared.reply.Event.{Event}
use Rattle.cmwq_types.specs.declared.reply.Event.TheVariants as event
use Rattle.cmwq_types.specs.declared.reply.Refusal.{Refusal}
use Rattle.cmwq_types.specs.declared.reply.Reply.{Reply}
use Rattle.cmwq_types.specs.declared.scenario.Op.{Op}
use Rattle.cmwq_types.specs.declared.scenario.Op.TheVariants as op
use Rattle.cmwq_table.specs.Changes.{Sets}
use Rattle.cmwq_table.specs.Counts.{first_due, is_deferred}
use Rattle.cmwq_table.specs.Moves.{advance, begin_again, carry_out, come_to_end, delay_from_body, first_moving, mod_from_body, moved, next_move, onward, queue_from_body, retire}
use Rattle.cmwq_table.specs.State.{State, is_disabled, pending_at, running_at}
use Rattle.cmwq_table.specs.Table.{answer, effect, fired_first, is_met, next, next_unless, refusal, step_or_tick, stepped, table}
use Rattle.cmwq_table.specs.Told.{cancelled_by, taken_off_in, work_if}
use Rattle.cmwq_table.specs.declared.state.Pending.{Pending}
use Rattle.cmwq_table.specs.declared.state.Running.{Running}
use Rattle.cmwq_reasons.specs.Laws.{NoBodyTakesOff, is_move, takes_off, takes_pending}

record Says (o : Op) (e : Event) : Type 0 where
  runs : takes_pending e ≡ false
  takes : (v : ℕ) → taken_off_in e ≡ Some v → takes_off o v ≡ true

takes-none : (o : Op) (e : Event) → takes_pending e ≡ false → taken_off_in e ≡ None → Says o e
takes-none o e runs none = record { runs = runs; takes = λ v is. (let no : Some v ≡ None = sym is ∙ none in cc) }

takes-if : (b : Bool) (n v : ℕ) → work_if b n ≡ Some v → (n == v) ≡ true
takes-if true n v is = (let same : n ≡ v = cc in eq-eqb n v same)
takes-if false n v is = cc

module _ (S : ScenarioContents) (s : State) (w : ℕ) (r : Running) where
  queues : (v : WorkId) (cpu : ℕ) (b : Bool) (p : Option Pending) → Says (op.Queue v cpu) (queue_from_body S (onward s w r) v cpu b p).1
  queues v cpu true p = takes-none _ _ refl refl
  queues v cpu false (Some p) = takes-none _ _ refl refl
  queues v cpu false None = takes-none _ _ refl refl

  delays : (v : WorkId) (cpu ticks : ℕ) (b : Bool) (p : Option Pending) → Says (op.Delay v ticks) (delay_from_body S (onward s w r) v cpu ticks b p).1
  delays v cpu ticks true p = takes-none _ _ refl refl
  delays v cpu ticks false (Some p) = takes-none _ _ refl refl
  delays v cpu ticks false None = takes-none _ _ refl refl

  mods : (v : WorkId) (cpu ticks : ℕ) (b : Bool) (p : Option Pending) → Says (op.Mod v ticks) (mod_from_body S (onward s w r) v cpu ticks b p).1
  mods v cpu ticks true p = takes-none _ _ refl refl
  mods v cpu ticks false p = record { runs = refl; takes = λ u is. takes-if _ v.0 u is }

  ends : (p : Pending) (b : Bool) → Says op.Finish (cond {A = State × Event} b (begin_again s w r p, event.FinishesAndStarts) (retire s w r, event.Finishes)).1
  ends p true = takes-none _ _ refl refl
  ends p false = takes-none _ _ refl refl

  finishes : (o : Option Pending) → Says op.Finish (come_to_end s w r o).1
  finishes (Some p) = ends p (is_deferred p.place)
  finishes None = takes-none _ _ refl refl

  says : (o : Op) → Says o (carry_out S s w r o).1
  says (op.Burn ticks) = takes-none _ _ refl refl
  says (op.Sleep ticks) = takes-none _ _ refl refl
  says (op.Queue v cpu) = queues v cpu (is_disabled s v.0) (pending_at s v.0)
  says op.Finish = finishes (pending_at s w)
  says (op.Delay v ticks) = delays v (local_cpu S r.pool) ticks (is_disabled s v.0) (pending_at s v.0)
  says (op.Mod v ticks) = mods v (local_cpu S r.pool) ticks (is_disabled s v.0) (pending_at s v.0)
  says (op.Cancel v) = record { runs = refl; takes = λ u is. takes-if _ v.0 u is }

pub advances-run : (S : ScenarioContents) (s : State) (w : ℕ) (o : Option Running) → takes_pending (advance S s w o).1 ≡ false
advances-run S s w (Some r) = (says S s w r (op_at S w r.pc)).runs
advances-run S s w None = refl

-- what was taken off, is another work item
pub took-apart : (w v : ℕ) (took : Bool) (o : Option ℕ) → o ≡ work_if took v → (o ≡ Some w → ⊥) → took ≡ true → w ≡ v → ⊥
took-apart w v took o is left took_it same = left (is ∙ ap (λ (b : Bool). work_if b v) took_it ∙ ap Some (sym same))

-- a move of the machine sets nothing
pub move-sets : (s b : State) (i : Instr) → is_move i ≡ true → Sets s i b → b ≡ s
move-sets s b i move (Sets.nothing i1 shallow) = refl
move-sets s b i move set = cc

module _ (S : ScenarioContents) (w : ℕ) (left_alone : NoBodyTakesOff S w) (s : State) where
  advances : (u : ℕ) (o : Option Running) → taken_off_in (advance S s u o).1 ≡ Some w → ⊥
  advances u (Some r) is =
      let o = op_at S u r.pc in
      let no : true ≡ false = sym ((says S s u r o).takes w is) ∙ left_alone u r.pc in
      cc
  advances u None is = cc

  moves : (pool : ℕ) (move : Move) → taken_off_in (moved S s pool move).1 ≡ Some w → ⊥
  moves pool (Advance u) is = advances u.0 (running_at s u.0) is
  moves pool move is = cc

  module _ (i : Instr) where
    abbrev Left : State × Reply → Type 0
    Left after = cancelled_by i after.1 ≡ Some w → ⊥

    steps : (pool : ℕ) (o : Option Move) → Left (stepped S s pool o)
    steps pool (Some move) is = moves pool move is
    steps pool None is = cc

    fires : (o : Option ℕ) → Left (fired_first S s o)
    fires (Some v) is = cc
    fires None is = cc

    step_or_ticks : (o : Option ℕ) → Left (step_or_tick S s o)
    step_or_ticks (Some pool) is = steps pool (next_move S s pool) is
    step_or_ticks None is = cc

    nexts : (o : Option ℕ) → Left (next S s o)
    nexts (Some v) is = cc
    nexts None is = step_or_ticks (first_moving S s) is

    goes-on : (met : Bool) → Left (next_unless S s met)
    goes-on true is = cc
    goes-on false is = nexts (first_due S s) is

    answers : (o : Option Refusal) → Left (effect S s i) → Left (answer S s i o (effect S s i))
    answers (Some why) left is = cc
    answers None left is = left is

  effect-leaves : (i : Instr) → is_move i ≡ true → Left i (effect S s i)
  effect-leaves (instr.Step pool) move is = steps (instr.Step pool) pool (next_move S s pool) is
  effect-leaves instr.Fire move is = fires instr.Fire (first_due S s) is
  effect-leaves instr.Tick move is = cc
  effect-leaves instr.Next move is = nexts instr.Next (first_due S s) is
  effect-leaves (instr.Until time) move is = goes-on (instr.Until time) (is_met S s (instr.Until time)) is
  effect-leaves (instr.Wait flush) move is = goes-on (instr.Wait flush) (is_met S s (instr.Wait flush)) is
  effect-leaves instr.Quiet move is = goes-on instr.Quiet (is_met S s instr.Quiet) is
  effect-leaves i move is = cc

  -- a move leaves alone what no body takes off
  pub table-leaves : (i : Instr) → is_move i ≡ true → cancelled_by i (table S s i).1 ≡ Some w → ⊥
  unfolding table
  table-leaves i move = answers i (refusal S s i) (effect-leaves i move)
