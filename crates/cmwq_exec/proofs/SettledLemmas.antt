-- A tick of a settled machine is a `next`, and so are several.
use Rattle.std.proofs.Common.{◌≡◌, ℕ, zero, suc, ◌+◌, ◌-◌, ◌<◌, ◌≤◌, None, arith, refl, sym, ap, ◌∙◌}
use Rattle.std.proofs.lemmas.Bool.{lt-ltb}
use Rattle.cmwq_types.specs.Contents.{ScenarioContents}
use Rattle.cmwq_types.specs.declared.instr.Instr.TheVariants.{Next}
use Rattle.cmwq_types.specs.declared.reply.Reply.{Reply}
use Rattle.cmwq_types.specs.declared.reply.Reply.TheVariants.{Done}
use Rattle.cmwq_table.specs.Counts.{first_due}
use Rattle.cmwq_table.specs.Events.{is_silent}
use Rattle.cmwq_table.specs.Moves.{first_moving, tick}
use Rattle.cmwq_table.specs.Ready.{Loaded, holding}
use Rattle.cmwq_table.specs.Repeats.{after_times, reply_behind}
use Rattle.cmwq_table.specs.State.{State}
use Rattle.cmwq_table.specs.Table.{table}
use Rattle.cmwq_table.proofs.RepeatLemmas.{with_spent}
use Rattle.cmwq_table.proofs.TimesLemmas.{after_times-last}
use Rattle.cmwq_parts.specs.SettledTicks.{AreSettled, IsSettled, ticks}
use Rattle.cmwq_exec.specs.Advances.{HasAdvanced}

ticks-last : (S : ScenarioContents) (count : ℕ) (s : State) → ticks S s (suc count) ≡ tick S (ticks S s count)
ticks-last S zero s = refl
ticks-last S (suc count) s = ticks-last S count (tick S s)

-- ticks spend nothing
pub ticks-spent : (S : ScenarioContents) (count : ℕ) (s : State) → (ticks S s count).spent ≡ s.spent
ticks-spent S zero s = refl
ticks-spent S (suc count) s = ticks-spent S count (tick S s)

-- where nothing else can happen, `next` is a tick
next-ticks : (S : ScenarioContents) (s : State) (spent : ℕ) → IsSettled S s → spent < S.steps
    → table S (with_spent s spent) Next ≡ (with_spent (tick S s) (spent + 1), Done)
unfolding table
next-ticks S s spent settled left =
    let due : first_due S (with_spent s spent) ≡ None = settled.0 in
    let moving : first_moving S (with_spent s spent) ≡ None = settled.1 in
    rw (lt-ltb spent S.steps left, due, moving) refl

-- so many ticks, each of a settled machine, are as many `next`s
pub ticks-times : (S : ScenarioContents) (s : State) (count : ℕ) → AreSettled S s count → s.spent + count ≤ S.steps
    → after_times S s Next count ≡ with_spent (ticks S s count) (s.spent + count)
ticks-times S s zero settled left = ap (with_spent s) (omega arith)
ticks-times S s (suc count) settled left =
    let before = ticks-times S s count (λ earlier below. settled earlier (omega arith)) (omega arith) in
    after_times-last S Next count s
    ∙ ap (λ (x : State). (table S x Next).0) before
    ∙ ap (λ (p : State × Reply). p.0) (next-ticks S (ticks S s count) (s.spent + count) (settled count (omega arith)) (omega arith))
    ∙ ap (λ (x : State). with_spent x (s.spent + count + 1)) (sym (ticks-last S count s))
    ∙ ap (with_spent (ticks S s (suc count))) (omega arith)

-- each of them is done, and says nothing
pub ticks-done : (S : ScenarioContents) (s : State) (count : ℕ) → AreSettled S s count → s.spent + count ≤ S.steps
    → (earlier : ℕ) → earlier < count → reply_behind S s Next earlier ≡ Done
ticks-done S s count settled left earlier below =
    ap (λ (x : State). (table S x Next).1) (ticks-times S s earlier (λ k low. settled k (omega arith)) (omega arith))
    ∙ ap (λ (p : State × Reply). p.1) (next-ticks S (ticks S s earlier) (s.spent + earlier) (settled earlier below) (omega arith))

-- who lets so many of them pass and spends as many steps has advanced by them
pub passes : (old : Loaded) (most count : ℕ) → 0 < count → count ≤ most → AreSettled old.scenario old.state count
    → old.state.spent + count ≤ old.scenario.steps
    → HasAdvanced old most count (holding old.scenario (with_spent (ticks old.scenario old.state count) (old.state.spent + count))) Done
passes old most count some few settled left =
    let S = old.scenario in
    let s = old.state in
    record {
      some = some;
      few = few;
      state = ap (holding S) (sym (ticks-times S s count settled left));
      last = sym (ticks-done S s count settled left (count - 1) (omega arith));
      silent = λ earlier below. ap is_silent (ticks-done S s count settled left earlier (omega arith));
    }
