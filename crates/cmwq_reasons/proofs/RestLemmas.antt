-- What an instruction leaves as it was: the turn of one work item leaves all but what is pending and the next stamp, and only a caller's
-- instruction sets limits, the freeze and memory.
use Rattle.std.proofs.Common.{◌≡◌, ℕ, Bool, true, false, cond, List, [], Option, None, refl, ap, ◌∙◌}
use Rattle.cmwq_types.specs.Contents.{ScenarioContents}
use Rattle.cmwq_types.specs.declared.instr.Instr.{Instr}
use Rattle.cmwq_types.specs.declared.moves.Move.{Move}
use Rattle.cmwq_types.specs.declared.reply.Event.{Event}
use Rattle.cmwq_types.specs.declared.reply.Reply.{Reply}
use Rattle.cmwq_table.specs.declared.state.Running.{Running}
use Rattle.cmwq_table.specs.State.{State}
use Rattle.cmwq_table.specs.Changes.{Acts, Effect, Fills, Sets, Turn}
use Rattle.cmwq_table.specs.Counts.{is_rescuer}
use Rattle.cmwq_table.specs.Moves.{become_idle, begin_again, onward, retire, with_pending, with_running}

-- the state without what is pending and the next stamp
abbrev pub rest : State → State
rest s = record s { next = 0; pending = [] }

pub fills-rest : (S : ScenarioContents) (s t : State) → Fills S s t → rest t ≡ rest s
fills-rest S s t Fills.stays = refl
fills-rest S s t (Fills.more u queue pool w filling first room) = fills-rest S s u filling

pub turn-rest : (S : ScenarioContents) (s t : State) (w : ℕ) (took put : Bool) → Turn S s w took put t → rest t ≡ rest s
turn-rest S s t w took put (Turn.fills u filling) = fills-rest S s u filling
turn-rest S s t w took put (Turn.takes p u is filling) = fills-rest S (with_pending s w None) u filling
turn-rest S s t w took put (Turn.changes p u cpu ticks may enabled is filling) = fills-rest S (with_pending s w None) u filling
turn-rest S s t w took put turn = refl

-- The limits of queues, the freeze and memory.

pub record Settings : Type 0 where
  pub max : List ℕ
  pub frozen : Bool
  pub pressed : Bool

abbrev pub settings : State → Settings
settings s = record { max = s.max; frozen = s.frozen; pressed = s.pressed }

pub turn-settings : (S : ScenarioContents) (s t : State) (w : ℕ) (took put : Bool) → Turn S s w took put t → settings t ≡ settings s
turn-settings S s t w took put turn = ap settings (turn-rest S s t w took put turn)

-- the worker of an instance that ends is free, or a rescuer is
pub retired : (P : State → Type 0) (s : State) (w : ℕ) (r : Running) → P (with_running s w None) → P (become_idle s w r) → P (retire s w r)
retired P s w r rescuer worker = at (is_rescuer r.worker) where
  at : (b : Bool) → P (cond {A = State} b (with_running s w None) (become_idle s w r))
  at true = rescuer
  at false = worker

pub acts-settings : (S : ScenarioContents) (s t : State) (pool : ℕ) (move : Move) (e : Event) → Acts S s pool move e t → settings t ≡ settings s
acts-settings S s t pool move e (Acts.asks w r o e1 v took put u is at asking turn) = turn-settings S (onward s w.0 r) u v took put turn
acts-settings S s t pool move e (Acts.ends w r u is at none filling) = ap settings (fills-rest S (retire s w.0 r) u filling) ∙ retired (λ (x : State). settings x ≡ settings s) s w.0 r refl refl
acts-settings S s t pool move e (Acts.again w r p u is at some deferred filling) = ap settings (fills-rest S (begin_again s w.0 r p) u filling)
acts-settings S s t pool move e acting = refl

-- what is set first, stays so
pub effect-settings : (S : ScenarioContents) (s t : State) (i : Instr) (r : Reply) → Effect S s i t r → (b : State) × Sets s i b × (settings t ≡ settings b)
effect-settings S s t i r (Effect.acts pool move e u shallow there is fits acting) = (s, Sets.nothing i shallow, acts-settings S s u pool move e acting)
effect-settings S s t i r (Effect.fires w u shallow due turn) = (s, Sets.nothing i shallow, turn-settings S s u w false false turn)
effect-settings S s t i r (Effect.passes shallow due moving) = (s, Sets.nothing i shallow, refl)
effect-settings S s t i r (Effect.answers b u w took put told set turn answer) = (b, set, turn-settings S b u w took put turn)
effect-settings S s t i r (Effect.gives u w took put f told shallow turn answer) = (s, Sets.nothing i shallow, turn-settings S s u w took put turn)

-- The workers of the pools, and what runs.

pub record Staff : Type 0 where
  pub running : List (Option Running)
  pub idle : List (Option ℕ)
  pub made : List ℕ

abbrev pub staff : State → Staff
staff s = record { running = s.running; idle = s.idle; made = s.made }

pub sets-staff : (s b : State) (i : Instr) → Sets s i b → staff b ≡ staff s
sets-staff s b i (Sets.limits q max) = refl
sets-staff s b i set = refl
