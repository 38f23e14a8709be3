-- An instruction leaves the time as it is, or it is a tick.
use Rattle.std.proofs.Common.{◌≡◌, ◌⊎◌, ℕ, ◌+◌, ◌<◌, ◌≤◌, false, None, arith, refl, ap, ◌∙◌, inl, inr}
use Rattle.cmwq_types.specs.Contents.{ScenarioContents}
use Rattle.cmwq_types.specs.Setting.{IsSetting}
use Rattle.cmwq_types.specs.declared.instr.Instr.{Instr}
use Rattle.cmwq_types.specs.declared.reply.Reply.{Reply}
use Rattle.cmwq_types.specs.declared.reply.Reply.TheVariants as reply
use Rattle.cmwq_table.specs.Changes.{Does, Effect}
use Rattle.cmwq_table.specs.Counts.{first_due}
use Rattle.cmwq_table.specs.Moves.{first_moving, tick}
use Rattle.cmwq_table.specs.State.{State}
use Rattle.cmwq_table.specs.Table.{table}
use Rattle.cmwq_table.proofs.Doings.{table-does}
use Rattle.cmwq_table.proofs.Frames.{acts-same, sets-frame, turn-same}

-- a tick, which some instruction was spent on
abbrev pub IsTick : ScenarioContents → State → State → Type 0
IsTick S s t = (spent : ℕ) × (t ≡ record (tick S s) { spent = spent })

-- A tick has passed: nothing could happen without time, and the reply says no more than that it is done.
pub record HasTicked (S : ScenarioContents) (s t : State) (r : Reply) : Type 0 where
  pub ticks : IsTick S s t
  pub due : first_due S s ≡ None
  pub moving : first_moving S s ≡ None
  pub told : r ≡ reply.Done

effect-ticks : (S : ScenarioContents) (s t : State) (i : Instr) (r : Reply) → Effect S s i t r → (t.time ≡ s.time) ⊎ HasTicked S s t r
effect-ticks S s t i r (Effect.acts pool move e u shallow there is fits acting) = inl (acts-same S s u pool move e acting).time
effect-ticks S s t i r (Effect.fires w u shallow due turn) = inl (turn-same S s u w false false turn).time
effect-ticks S s t i r (Effect.passes shallow due moving) = inr (record { ticks = (s.spent, refl); due = due; moving = moving; told = refl })
effect-ticks S s t i r (Effect.answers b u w took put told set turn answer) = inl ((turn-same S b u w took put turn).time ∙ (sets-frame S s b i set).0)
effect-ticks S s t i r (Effect.gives u w took put f told shallow turn answer) = inl (turn-same S s u w took put turn).time

does-ticks : (S : ScenarioContents) (s t : State) (i : Instr) (r : Reply) → Does S s i t r → (t.time ≡ s.time) ⊎ HasTicked S s t r
does-ticks S s t i r (Does.refused why) = inl refl
does-ticks S s t i r (Does.done u told spent fits effect) =
    elim (effect-ticks S s u i told effect) [
      | inl stays ↦ inl stays
      | inr has ↦ inr (record { ticks = (spent, ap (λ (v : State). record v { spent = spent }) has.ticks.1); due = has.due; moving = has.moving; told = has.told })
    ]

pub table-ticks : (S : ScenarioContents) (s : State) (i : Instr) → ((table S s i).0.time ≡ s.time) ⊎ HasTicked S s (table S s i).0 (table S s i).1
table-ticks S s i = does-ticks S s (table S s i).0 i (table S s i).1 (table-does S s i)

-- time doesn't go back
pub time-goes_on : (S : ScenarioContents) (s : State) (i : Instr) → IsSetting S → s.time ≤ (table S s i).0.time
time-goes_on S s i setting =
    elim (table-ticks S s i) [
      | inl stays ↦ omega (arith, stays)
      | inr has ↦ (let after : (table S s i).0.time ≡ s.time + 1 = ap (λ (t : State). t.time) has.ticks.1 in omega (arith, after))
    ]

-- where it goes on, a tick has passed
pub time-ticks : (S : ScenarioContents) (s : State) (i : Instr) → IsSetting S → s.time < (table S s i).0.time → IsTick S s (table S s i).0
time-ticks S s i setting later =
    elim (table-ticks S s i) [ inl stays ↦ absurd (omega (arith, stays)) | inr has ↦ has.ticks ]
