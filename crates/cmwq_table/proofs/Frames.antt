-- What an instruction does to the time, to the depths, and to the lengths of the state's lists.
-- A refused instruction leaves the whole state, so depths are only said of one that isn't refused.
use Rattle.std.proofs.Common.{◌≡◌, ℕ, ◌+◌, ◌-◌, List, length, Option, None, Bool, true, false, cond, [], ◌∷◌, suc, refl, ap, ◌∙◌, ◌⊎◌, inl, inr}
use Rattle.std.proofs.Math.ListN.{length-set}
use Rattle.std.specs.Prelude.{slice_set}
use Rattle.cmwq_types.specs.Contents.{ScenarioContents}
use Rattle.cmwq_types.specs.declared.instr.Instr.{Instr}
use Rattle.cmwq_types.specs.declared.instr.Instr.TheVariants as instr
use Rattle.cmwq_types.specs.declared.moves.Move.{Move}
use Rattle.cmwq_types.specs.declared.reply.Event.{Event}
use Rattle.cmwq_types.specs.declared.reply.Refusal.{Refusal}
use Rattle.cmwq_types.specs.declared.reply.Reply.{Reply}
use Rattle.cmwq_types.specs.declared.reply.Reply.TheVariants as reply
use Rattle.cmwq_table.specs.Counts.{burns, first_due, is_rescuer}
use Rattle.cmwq_table.specs.Moves.{become_idle, begin_again, burned, first_moving, onward, retire, with_pending, with_running}
use Rattle.cmwq_table.specs.State.{State, depth_at}
use Rattle.cmwq_table.specs.Table.{table}
use Rattle.cmwq_table.specs.declared.state.Running.{Running}
use Rattle.cmwq_table.specs.Changes.{Acts, Does, Effect, Fills, Sets, Turn, sets_depth}
use Rattle.cmwq_table.proofs.Doings.{table-does}

-- the lists are as long
pub record IsAsLong (s t : State) : Type 0 where
  pub pending : length t.pending ≡ length s.pending
  pub running : length t.running ≡ length s.running
  pub idle : length t.idle ≡ length s.idle

-- and no change of works touches these
pub record Same (s t : State) : Type 0 where
  pub time : t.time ≡ s.time
  pub depth : t.depth ≡ s.depth
  pub long : IsAsLong s t

long-then : (s t u : State) → IsAsLong s t → IsAsLong t u → IsAsLong s u
long-then s t u a b = record { pending = b.pending ∙ a.pending; running = b.running ∙ a.running; idle = b.idle ∙ a.idle }

then : (s t u : State) → Same s t → Same t u → Same s u
then s t u a b = record { time = b.time ∙ a.time; depth = b.depth ∙ a.depth; long = long-then s t u a.long b.long }

pub fills-same : (S : ScenarioContents) (s t : State) → Fills S s t → Same s t
fills-same S s t Fills.stays = record { time = refl; depth = refl; long = record { pending = refl; running = refl; idle = refl } }
fills-same S s t (Fills.more u queue pool w filling first room) =
    then s u t (fills-same S s u filling) (record { time = refl; depth = refl; long = record { pending = length-set u.pending w _; running = refl; idle = refl } })

off-same : (s : State) (w : ℕ) → Same s (with_pending s w None)
off-same s w = record { time = refl; depth = refl; long = record { pending = length-set s.pending w _; running = refl; idle = refl } }

pub turn-same : (S : ScenarioContents) (s t : State) (w : ℕ) (took put : Bool) → Turn S s w took put t → Same s t
turn-same S s t w took put (Turn.fills u filling) = fills-same S s u filling
turn-same S s t w took put (Turn.puts cpu ticks may enabled is) = record { time = refl; depth = refl; long = record { pending = length-set s.pending w _; running = refl; idle = refl } }
turn-same S s t w took put (Turn.fires p due cpu is at) =
    let off = with_pending s w None in
    then s off t (off-same s w) (record { time = refl; depth = refl; long = record { pending = length-set off.pending w _; running = refl; idle = refl } })
turn-same S s t w took put (Turn.takes p u is filling) = (let off = with_pending s w None in then s off u (off-same s w) (fills-same S off u filling))
turn-same S s t w took put (Turn.changes p u cpu ticks may enabled is filling) =
    let off = with_pending s w None in
    then s u t (then s off u (off-same s w) (fills-same S off u filling)) (record { time = refl; depth = refl; long = record { pending = length-set u.pending w _; running = refl; idle = refl } })

runs-same : (s : State) (w : ℕ) (r : Option Running) → Same s (with_running s w r)
runs-same s w r = record { time = refl; depth = refl; long = record { pending = refl; running = length-set s.running w r; idle = refl } }

retired-same : (s : State) (w : ℕ) (r : Running) → Same s (retire s w r)
retired-same s w r = at (is_rescuer r.worker) where
  at : (b : Bool) → Same s (cond {A = State} b (with_running s w None) (become_idle s w r))
  at true = runs-same s w None
  at false = record { time = refl; depth = refl; long = record { pending = refl; running = length-set s.running w None; idle = length-set s.idle _ _ } }

pub acts-same : (S : ScenarioContents) (s t : State) (pool : ℕ) (move : Move) (e : Event) → Acts S s pool move e t → Same s t
acts-same S s t pool move e (Acts.starts w worker p free is) =
    record { time = refl; depth = refl; long = record { pending = length-set s.pending w.0 _; running = length-set s.running w.0 _; idle = length-set s.idle _ _ } }
acts-same S s t pool move e (Acts.rescues w p is) = record { time = refl; depth = refl; long = record { pending = length-set s.pending w.0 _; running = length-set s.running w.0 _; idle = refl } }
acts-same S s t pool move e (Acts.defers w p is) = record { time = refl; depth = refl; long = record { pending = length-set s.pending w.0 _; running = refl; idle = refl } }
acts-same S s t pool move e (Acts.wakes w r is) = record { time = refl; depth = refl; long = record { pending = refl; running = length-set s.running w.0 _; idle = refl } }
acts-same S s t pool move e (Acts.burns w r ticks is at) = runs-same s w.0 _
acts-same S s t pool move e (Acts.sleeps w r ticks is at) = runs-same s w.0 _
acts-same S s t pool move e (Acts.asks w r o e1 v took put u is at asking turn) = (let on = onward s w.0 r in then s on u (runs-same s w.0 _) (turn-same S on u v took put turn))
acts-same S s t pool move e (Acts.ends w r u is at none filling) = (let gone = retire s w.0 r in then s gone u (retired-same s w.0 r) (fills-same S gone u filling))
acts-same S s t pool move e (Acts.again w r p u is at some deferred filling) =
    let begun = begin_again s w.0 r p in
    then s begun u (record { time = refl; depth = refl; long = record { pending = length-set s.pending w.0 _; running = length-set s.running w.0 _; idle = refl } }) (fills-same S begun u filling)

-- Depths.

pub depths_then : State → Instr → List ℕ
depths_then s (instr.Disable w) = slice_set s.depth w.0 (depth_at s w.0 + 1)
depths_then s (instr.Enable w) = slice_set s.depth w.0 (depth_at s w.0 - 1)
depths_then s i = s.depth

left : (s : State) (i : Instr) → sets_depth i ≡ false → s.depth ≡ depths_then s i
unfolding depths_then
left s (instr.Disable w) shallow = cc
left s (instr.Enable w) shallow = cc
left s i shallow = refl

-- What an instruction does to these.
pub record Frame (S : ScenarioContents) (s : State) (i : Instr) (t : State) : Type 0 where
  pub time : (t.time ≡ s.time) ⊎ ((t.time ≡ s.time + 1) × (first_due S s ≡ None) × (first_moving S s ≡ None))
  pub depth : t.depth ≡ depths_then s i
  pub long : IsAsLong s t

framed : (S : ScenarioContents) (s t : State) (i : Instr) → sets_depth i ≡ false → Same s t → Frame S s i t
framed S s t i shallow same = record { time = inl same.time; depth = same.depth ∙ left s i shallow; long = same.long }

pub sets-frame : (S : ScenarioContents) (s b : State) (i : Instr) → Sets s i b → (b.time ≡ s.time) × (b.depth ≡ depths_then s i) × IsAsLong s b
unfolding depths_then
sets-frame S s b i (Sets.nothing i1 shallow) = (refl, left s i shallow, record { pending = refl; running = refl; idle = refl })
sets-frame S s b i (Sets.limits q max) = (refl, refl, record { pending = refl; running = refl; idle = refl })
sets-frame S s b i Sets.freezes = (refl, refl, record { pending = refl; running = refl; idle = refl })
sets-frame S s b i Sets.thaws = (refl, refl, record { pending = refl; running = refl; idle = refl })
sets-frame S s b i Sets.presses = (refl, refl, record { pending = refl; running = refl; idle = refl })
sets-frame S s b i Sets.relieves = (refl, refl, record { pending = refl; running = refl; idle = refl })
sets-frame S s b i (Sets.disables w) = (refl, refl, record { pending = refl; running = refl; idle = refl })
sets-frame S s b i (Sets.enables w) = (refl, refl, record { pending = refl; running = refl; idle = refl })

length-burned : (test : ℕ → Option Running → Bool) (w : ℕ) (rs : List (Option Running)) → length (burned test w rs) ≡ length rs
length-burned test w [] = refl
length-burned test w (r ∷ rs) = ap suc (length-burned test (w + 1) rs)

effect-frame : (S : ScenarioContents) (s t : State) (i : Instr) (r : Reply) → Effect S s i t r → Frame S s i t
effect-frame S s t i r (Effect.acts pool move e u shallow there is fits acting) = framed S s u i shallow (acts-same S s u pool move e acting)
effect-frame S s t i r (Effect.fires w u shallow due turn) = framed S s u i shallow (turn-same S s u w false false turn)
effect-frame S s t i r (Effect.passes shallow due moving) =
    record { time = inr (refl, due, moving); depth = left s i shallow; long = record { pending = refl; running = length-burned (burns S s) 0 s.running; idle = refl } }
effect-frame S s t i r (Effect.answers b u w took put told set turn answer) =
    let before = sets-frame S s b i set in
    let same = turn-same S b u w took put turn in
    record { time = inl (same.time ∙ before.0); depth = same.depth ∙ before.1; long = long-then s b u before.2 same.long }
effect-frame S s t i r (Effect.gives u w took put f told shallow turn answer) =
    let same = turn-same S s u w took put turn in
    record { time = inl same.time; depth = same.depth ∙ left s i shallow; long = record { pending = same.long.pending; running = same.long.running; idle = same.long.idle } }

-- The instruction was refused, and changed nothing.
pub record IsRefused (s t : State) (r : Reply) : Type 0 where
  pub why : Refusal
  pub told : r ≡ reply.Refused why
  pub same : t ≡ s

does-frame : (S : ScenarioContents) (s t : State) (i : Instr) (r : Reply) → Does S s i t r → (Frame S s i t) ⊎ (IsRefused s t r)
does-frame S s t i r (Does.refused why) = inr (record { why = why; told = refl; same = refl })
does-frame S s t i r (Does.done u told spent fits effect) =
    let frame = effect-frame S s u i told effect in
    inl (record { time = frame.time; depth = frame.depth; long = record { pending = frame.long.pending; running = frame.long.running; idle = frame.long.idle } })

pub table-frame : (S : ScenarioContents) (s : State) (i : Instr) → (Frame S s i (table S s i).0) ⊎ (IsRefused s (table S s i).0 (table S s i).1)
table-frame S s i = does-frame S s (table S s i).0 i (table S s i).1 (table-does S s i)
