-- What filling and taking off keep; and the list of pending halves keeps its length: each work item has its place in it in every state of a run.
use Rattle.std.proofs.Common.{◌≡◌, ◌⊎◌, inl, inr, ℕ, zero, suc, cond, List, [], ◌∷◌, length, Option, Some, None, refl, ap, ◌∙◌}
use Rattle.std.proofs.lemmas.List.{length-replicate, length-set}
use Rattle.cmwq_types.specs.Contents.{ScenarioContents}
use Rattle.cmwq_types.specs.Scenario.{queue_of}
use Rattle.cmwq_types.specs.declared.instr.Instr.{Instr}
use Rattle.cmwq_types.specs.declared.reply.Place.{Place}
use Rattle.cmwq_types.specs.declared.reply.Place.TheVariants.{Timer, Inactive, Listed, Deferred}
use Rattle.cmwq_types.specs.declared.reply.Reply.{Reply}
use Rattle.cmwq_table.specs.Counts.{first_inactive, has_room}
use Rattle.cmwq_table.specs.Moves.{enlist, fill_from, fill_one, fill_times, taken_off, with_pending}
use Rattle.cmwq_table.specs.State.{State, start}
use Rattle.cmwq_table.specs.Table.{after_all, run, table}
use Rattle.cmwq_table.specs.declared.state.Pending.{Pending}
use Rattle.cmwq_table.proofs.Frames.{Frame, IsRefused, table-frame}

-- What filling and taking off keep.
pub record Keeps (s t : State) : Type 0 where
  pub long : length t.pending ≡ length s.pending
  pub running : t.running ≡ s.running
  pub time : t.time ≡ s.time

itself : (s : State) → Keeps s s
itself s = record { long = refl; running = refl; time = refl }

enlist-keeps : (s : State) (pool : ℕ) (o : Option ℕ) → Keeps s (enlist s pool o)
enlist-keeps s pool (Some w) = record { long = length-set s.pending w _; running = refl; time = refl }
enlist-keeps s pool None = itself s

fill_times-keeps : (S : ScenarioContents) (queue pool n : ℕ) (s : State) → Keeps s (fill_times S queue pool n s)
fill_times-keeps S queue pool zero s = itself s
fill_times-keeps S queue pool (suc n) s =
    let one = enlist-keeps s pool (cond (has_room S s queue pool) (first_inactive S s queue pool) None) in
    let more = fill_times-keeps S queue pool n (fill_one S queue pool s) in
    record { long = more.long ∙ one.long; running = more.running ∙ one.running; time = more.time ∙ one.time }

fill_from-keeps : (S : ScenarioContents) (queue : ℕ) (at : Place) (s : State) → Keeps s (fill_from S queue at s)
fill_from-keeps S queue (Timer due cpu) s = itself s
fill_from-keeps S queue (Inactive pool) s = fill_times-keeps S queue pool (length S.works) s
fill_from-keeps S queue (Listed pool) s = fill_times-keeps S queue pool (length S.works) s
fill_from-keeps S queue (Deferred pool) s = fill_times-keeps S queue pool (length S.works) s

pub taken_off-keeps : (S : ScenarioContents) (s : State) (w : ℕ) (o : Option Pending) → Keeps s (taken_off S s w o)
taken_off-keeps S s w (Some p) =
    let filled = fill_from-keeps S (queue_of S w) p.place (with_pending s w None) in
    record { long = filled.long ∙ length-set s.pending w None; running = filled.running; time = filled.time }
taken_off-keeps S s w None = itself s

framed-long : (S : ScenarioContents) (s t : State) (i : Instr) (r : Reply) → (Frame S s i t) ⊎ (IsRefused s t r) → length t.pending ≡ length s.pending
framed-long S s t i r (inl frame) = frame.long.pending
framed-long S s t i r (inr refused) = ap (λ (u : State). length u.pending) refused.same

all-long : (S : ScenarioContents) (s : State) (instrs : List Instr) → length (after_all S s instrs).pending ≡ length s.pending
all-long S s [] = refl
all-long S s (i ∷ instrs) = all-long S (table S s i).0 instrs ∙ framed-long S s (table S s i).0 i (table S s i).1 (table-frame S s i)

-- in every state of a run
pub pending-long : (S : ScenarioContents) (instrs : List Instr) → length (run S instrs).pending ≡ length S.works
pending-long S instrs = all-long S (start S) instrs ∙ length-replicate (length S.works) None
