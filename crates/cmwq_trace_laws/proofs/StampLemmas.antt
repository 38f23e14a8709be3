-- What an instruction does to the stamp of the instance that its event moves: it is new if the instance starts or wakes, else it is kept.
use Rattle.std.proofs.Common.{◌≡◌, ℕ, ◌<◌, ◌≤◌, Bool, true, false, List, Option, Some, None, arith, refl, sym, subst, ◌⊎◌, inl, inr}
use Rattle.std.specs.Prelude.{slice_set}
use Rattle.cmwq_types.specs.Contents.{ScenarioContents}
use Rattle.cmwq_types.specs.declared.instr.Instr.{Instr}
use Rattle.cmwq_types.specs.declared.instr.WorkId.{WorkId}
use Rattle.cmwq_types.specs.declared.moves.Move.{Move}
use Rattle.cmwq_types.specs.declared.reply.Event.{Event}
use Rattle.cmwq_types.specs.declared.reply.Event.TheVariants as event
use Rattle.cmwq_types.specs.declared.reply.Reply.{Reply}
use Rattle.cmwq_types.specs.declared.reply.Reply.TheVariants as reply
use Rattle.cmwq_table.specs.Counts.{burns}
use Rattle.cmwq_table.specs.Laws.{is_wake}
use Rattle.cmwq_table.specs.Moves.{burned, moved_work}
use Rattle.cmwq_table.specs.State.{State, running_at}
use Rattle.cmwq_table.specs.Table.{table}
use Rattle.cmwq_table.specs.declared.state.Running.{Running}
use Rattle.cmwq_table.specs.Told.{is_start, tells_of}
use Rattle.cmwq_table.proofs.Runs.{Run, Runs, table-runs}

abbrev pub is_again : Event → Bool
is_again event.FinishesAndStarts = true
is_again other = false

-- both run on the same worker
abbrev pub IsSeat : Running → Running → Type 0
IsSeat old r = (r.pool ≡ old.pool) × (r.worker ≡ old.worker)

-- Of the work that an event moves: its stamp is new where it starts or wakes, else it is kept; or the work runs no more.
pub data StampFits (next after : ℕ) : Option Running → Option Running → Event → Type 0 where
  begins : (old : Option Running) (r : Running) (e : Event) → r.stamp ≡ next → next < after → is_start e ≡ true → is_again e ≡ false → StampFits next after old (Some r) e
  anew : (old r : Running) (e : Event) → r.stamp ≡ next → next < after → IsSeat old r → (is_start e ≡ true) ⊎ (is_wake e ≡ true) → StampFits next after (Some old) (Some r) e
  kept : (old r : Running) (e : Event) → r.stamp ≡ old.stamp → IsSeat old r → is_again e ≡ false → StampFits next after (Some old) (Some r) e
  gone : (old : Option Running) (e : Event) → StampFits next after old None e

pub data RunMoves (s : State) (running : List (Option Running)) (after : ℕ) (told : Reply) : Type 0 where
  nothing : running ≡ s.running → tells_of is_again told ≡ false → RunMoves s running after told
  passes : (test : ℕ → Option Running → Bool) → running ≡ burned test 0 s.running → tells_of is_again told ≡ false → RunMoves s running after told
  moves : (w : WorkId) (e : Event) (q : Option Running) → running ≡ slice_set s.running w.0 q → told ≡ reply.Event w e → StampFits s.next after (running_at s w.0) q e
      → RunMoves s running after told

not-again : (e : Event) → is_start e ≡ false → is_again e ≡ false
not-again event.FinishesAndStarts none = cc
not-again e none = refl

module _ (S : ScenarioContents) (s : State) where
  run-fits : (pool after : ℕ) (move : Move) (e : Event) (a q : Option Running) (next : ℕ) → next ≤ after → Run S s pool move e a q next → StampFits s.next after a q e
  run-fits pool after move e a q next h (Run.starts w worker p free so) = StampFits.begins None _ e refl (omega (arith, h)) refl refl
  run-fits pool after move e a q next h (Run.rescues w p so) = StampFits.begins None _ e refl (omega (arith, h)) refl refl
  run-fits pool after move e a q next h (Run.wakes w r) = StampFits.anew r _ e refl (omega (arith, h)) (refl, refl) (inr refl)
  run-fits pool after move e a q next h (Run.burns w r ticks at) = StampFits.kept r _ e refl (refl, refl) refl
  run-fits pool after move e a q next h (Run.sleeps w r ticks at) = StampFits.kept r _ e refl (refl, refl) refl
  run-fits pool after move e a q next h (Run.asks w r o e1 v took put at asking) = StampFits.kept r _ e refl (refl, refl) (not-again e asking.starts)
  run-fits pool after move e a q next h (Run.ends w r at) = StampFits.gone (Some r) e
  run-fits pool after move e a q next h (Run.again w r born at) = StampFits.anew r _ e refl (omega (arith, h)) (refl, refl) (inl refl)

  runs-move : (t : State) (r : Reply) → Runs S s t r → RunMoves s t.running t.next r
  runs-move t r (Runs.nothing running time quiet) = RunMoves.nothing running (quiet (λ v e. is_again e) (λ v. refl) (λ v. refl))
  runs-move t r (Runs.passes moving running time quiet) = RunMoves.passes (burns S s) running (quiet (λ v e. is_again e) (λ v. refl) (λ v. refl))
  runs-move t r (Runs.moves pool move e a q next there in_range chosen fits is run running time later told) =
      let w = moved_work move in
      RunMoves.moves w e q running told (subst (λ (o : Option Running). StampFits s.next t.next o q e) (sym is) (run-fits pool t.next move e a q next later run))

pub table-moves : (S : ScenarioContents) (s : State) (i : Instr) → RunMoves s (table S s i).0.running (table S s i).0.next (table S s i).1
table-moves S s i = runs-move S s (table S s i).0 (table S s i).1 (table-runs S s i)
