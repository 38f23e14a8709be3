-- What an instruction does to the instances that run: nothing, a tick, or a change of one of them, which the reply tells.
use Rattle.std.proofs.Common.{◌≡◌, ℕ, ◌+◌, ◌<◌, true, false, List, length, Option, Some, None, arith, refl, ap, sym, ◌∙◌, subst}
use Rattle.std.proofs.lemmas.Bool.{eqb-true}
use Rattle.std.specs.Prelude.{slice_set, ◌==◌, ◌&&◌}
use Rattle.cmwq_types.specs.Contents.{ScenarioContents}
use Rattle.cmwq_types.specs.Scenario.{op_at, pool_count}
use Rattle.cmwq_types.specs.declared.instr.Instr.{Instr}
use Rattle.cmwq_types.specs.declared.instr.WorkId.{WorkId}
use Rattle.cmwq_types.specs.declared.moves.Move.{Move}
use Rattle.cmwq_types.specs.declared.reply.Event.{Event}
use Rattle.cmwq_types.specs.declared.reply.Event.TheVariants as event
use Rattle.cmwq_types.specs.declared.reply.Reply.{Reply}
use Rattle.cmwq_types.specs.declared.reply.Reply.TheVariants as reply
use Rattle.cmwq_types.specs.declared.scenario.Op.{Op}
use Rattle.cmwq_types.specs.declared.scenario.Op.TheVariants as op
use Rattle.cmwq_table.specs.Counts.{runs}
use Rattle.cmwq_table.specs.Moves.{moved_work, tick}
use Rattle.cmwq_table.specs.State.{State, running_at}
use Rattle.cmwq_table.specs.Table.{table}
use Rattle.cmwq_table.specs.declared.state.Running.{Running}
use Rattle.cmwq_table.specs.Changes.{MoveFits}
use Rattle.cmwq_table.specs.Told.{burn_of, is_end, is_start}
use Rattle.cmwq_table.proofs.Choosing.{ready-burned}
use Rattle.cmwq_table.proofs.Runs.{Run, Runs, table-runs}
use Rattle.cmwq_burning.specs.Burning.{burns_before, finishes_work, starts_work}
use Rattle.cmwq_burning.proofs.Bodies.{before-next}
use Rattle.cmwq_burning.proofs.Settling.{IsSettled}

-- the reply tells neither of a start nor of an end
abbrev pub IsSilent : Reply → Type 0
IsSilent r = (w : ℕ) → (starts_work w r ≡ false) × (finishes_work w r ≡ false)

-- the instance is at the beginning of its body
pub record IsAtStart (r : Running) : Type 0 where
  pub pc : r.pc ≡ 0
  pub left : r.left ≡ 0

-- the instance is at the end of its body, and has nothing left to burn
pub record IsAtEnd (S : ScenarioContents) (w : ℕ) (r : Running) : Type 0 where
  pub left : r.left ≡ 0
  pub finish : op_at S w r.pc ≡ op.Finish

-- How one work runs before and after an event of it.
pub data Changes (S : ScenarioContents) (w : ℕ) : Option Running → Option Running → Event → Type 0 where
  starts : (r : Running) (e : Event) → r.pool < pool_count S → IsAtStart r → is_start e ≡ true → is_end e ≡ false → Changes S w None (Some r) e
  goes_on : (r q : Running) (e : Event) → q.pool ≡ r.pool → r.left + burns_before S w q.pc ≡ q.left + burns_before S w r.pc → is_start e ≡ false → is_end e ≡ false
      → Changes S w (Some r) (Some q) e
  ends : (r : Running) → IsAtEnd S w r → Changes S w (Some r) None event.Finishes
  again : (r q : Running) → q.pool ≡ r.pool → IsAtEnd S w r → IsAtStart q → Changes S w (Some r) (Some q) event.FinishesAndStarts

-- What happens at an instruction, up to how the works run then, the time, and the reply.
pub data Happens (S : ScenarioContents) (s : State) (running : List (Option Running)) (time : ℕ) (r : Reply) : Type 0 where
  nothing : running ≡ s.running → time ≡ s.time → IsSilent r → Happens S s running time r
  passes : IsSettled S s → running ≡ (tick S s).running → time ≡ s.time + 1 → IsSilent r → Happens S s running time r
  moves : (w : WorkId) (e : Event) (q : Option Running) → w.0 < length S.works → running ≡ slice_set s.running w.0 q → time ≡ s.time → r ≡ reply.Event w e
      → Changes S w.0 (running_at s w.0) q e → Happens S s running time r

-- an instruction, as it stands
abbrev pub Does : ScenarioContents → State → State × Reply → Type 0
Does S s after = Happens S s after.0.running after.0.time after.1

module _ (S : ScenarioContents) (s : State) where
  -- nothing is left of the burn of one that advances
  none-left : (w : ℕ) (r : Running) → runs (λ q. q.left == 0) (running_at s w) ≡ true → running_at s w ≡ Some r → r.left ≡ 0
  none-left w r done is = eqb-true r.left 0 (ap (runs (λ q. q.left == 0)) (sym is) ∙ done)

  -- by an operation that burns so much
  balance : (w : ℕ) (r : Running) (o : Op) (left : ℕ) → op_at S w r.pc ≡ o → left ≡ r.left + burn_of o → r.left + burns_before S w (r.pc + 1) ≡ left + burns_before S w r.pc
  balance w r o left at e = adds-up r.left left (burns_before S w r.pc) (burns_before S w (r.pc + 1)) (burn_of (op_at S w r.pc)) (burn_of o) (before-next S w r.pc) (ap burn_of at) e where
    adds-up : (a left before after more ticks : ℕ) → after ≡ before + more → more ≡ ticks → left ≡ a + ticks → a + after ≡ left + before
    adds-up a left before after more ticks p q r = omega arith

  run-changes : (pool : ℕ) (move : Move) (e : Event) (a q : Option Running) (next : ℕ) → pool < pool_count S → MoveFits S s pool move → running_at s (moved_work move).0 ≡ a → Run S s pool move e a q next
      → Changes S (moved_work move).0 a q e
  run-changes pool move e a q next there fits is (Run.starts w worker p free so) = Changes.starts _ e there (record { pc = refl; left = refl }) refl refl
  run-changes pool move e a q next there fits is (Run.rescues w p so) = Changes.starts _ e there (record { pc = refl; left = refl }) refl refl
  run-changes pool move e a q next there fits is (Run.wakes w r) = Changes.goes_on r _ e refl refl refl refl
  run-changes pool move e a q next there fits is (Run.burns w r ticks at) =
      Changes.goes_on r _ e refl (balance w.0 r (op.Burn ticks) ticks at (omega (arith, none-left w.0 r (ready-burned pool (running_at s w.0) fits.ready) is))) refl refl
  run-changes pool move e a q next there fits is (Run.sleeps w r ticks at) = Changes.goes_on r _ e refl (balance w.0 r (op.Sleep ticks) r.left at (omega arith)) refl refl
  run-changes pool move e a q next there fits is (Run.asks w r o e1 v took put at asking) =
      Changes.goes_on r _ e refl (balance w.0 r o r.left at (omega (arith, asking.burns))) asking.starts asking.ends
  run-changes pool move e a q next there fits is (Run.ends w r at) = Changes.ends r (record { left = none-left w.0 r (ready-burned pool (running_at s w.0) fits.ready) is; finish = at })
  run-changes pool move e a q next there fits is (Run.again w r born at) =
      Changes.again r _ refl (record { left = none-left w.0 r (ready-burned pool (running_at s w.0) fits.ready) is; finish = at }) (record { pc = refl; left = refl })

  runs-happen : (t : State) (r : Reply) → Runs S s t r → Happens S s t.running t.time r
  runs-happen t r (Runs.nothing running time quiet) = Happens.nothing running time (λ w. (quiet (λ v e. is_start e && (v.0 == w)) (λ v. refl) (λ v. refl), quiet (λ v e. is_end e && (v.0 == w)) (λ v. refl) (λ v. refl)))
  runs-happen t r (Runs.passes moving running time quiet) = Happens.passes moving running time (λ w. (quiet (λ v e. is_start e && (v.0 == w)) (λ v. refl) (λ v. refl), quiet (λ v e. is_end e && (v.0 == w)) (λ v. refl) (λ v. refl)))
  runs-happen t r (Runs.moves pool move e a q next there in_range chosen fits is run running time later told) =
      let changed = run-changes pool move e a q next there fits is run in
      let w = moved_work move in
      Happens.moves w e q in_range running time told (subst (λ (o : Option Running). Changes S w.0 o q e) (sym is) changed)

pub table-does : (S : ScenarioContents) (s : State) (i : Instr) → Does S s (table S s i)
table-does S s i = runs-happen S s (table S s i).0 (table S s i).1 (table-runs S s i)
