-- What setting a timer anew once, behind so many stamps that nothing has, comes to: that it was set so often.
use Rattle.std.proofs.Common.{◌≡◌, ℕ, zero, suc, ◌+◌, ◌-◌, ◌<◌, ◌≤◌, Bool, true, false, not, ◌&&◌, Some, None, Option, refl, sym, ap, ◌∙◌, subst}
use Rattle.std.specs.Prelude.{is_none}
use Rattle.cmwq_types.specs.Contents.{ScenarioContents}
use Rattle.cmwq_types.specs.Places.{is_placed}
use Rattle.cmwq_types.specs.declared.instr.Instr.TheVariants.{Mod}
use Rattle.cmwq_types.specs.declared.instr.WorkId.{WorkId}
use Rattle.cmwq_types.specs.declared.reply.Place.{Place}
use Rattle.cmwq_types.specs.declared.reply.Place.TheVariants.{Timer, Inactive, Listed, Deferred}
use Rattle.cmwq_types.specs.declared.reply.Refusal.{Refusal}
use Rattle.cmwq_types.specs.declared.reply.Reply.TheVariants.{Changed}
use Rattle.cmwq_table.specs.declared.state.Pending.{Pending}
use Rattle.cmwq_table.specs.Moves.{fill_from, place_after, taken_off, with_pending}
use Rattle.cmwq_table.specs.Ready.{Loaded, holding}
use Rattle.cmwq_table.specs.Repeats.{HasRepeated}
use Rattle.cmwq_table.specs.State.{State, is_disabled, pending_at}
use Rattle.cmwq_table.specs.Table.{operands}
use Rattle.cmwq_table.proofs.ModRepeatLemmas.{mod_repeats, skipping}
use Rattle.cmwq_table.proofs.RepeatLemmas.{with_spent}
use Rattle.cmwq_types.specs.Scenario.{queue_of}

-- what is told of whether the work may be set so
pub may_be_set : (o : Option Refusal) (off : Bool) → (is_none o && not off) ≡ true → (o ≡ None) × (off ≡ false)
may_be_set None false e = (refl, refl)
may_be_set None true e = cc
may_be_set (Some why) off e = cc

placed-spent : (S : ScenarioContents) (s : State) (w cpu ticks : ℕ) → (place_after S s w cpu ticks).spent ≡ s.spent
placed-spent S s w cpu zero = refl
placed-spent S s w cpu (suc less) = refl

timer-spent : (S : ScenarioContents) (queue : ℕ) (place : Place) (s : State) → is_placed place ≡ false → (fill_from S queue place s).spent ≡ s.spent
timer-spent S queue (Timer due cpu) s out = refl
timer-spent S queue (Inactive pool) s out = cc
timer-spent S queue (Listed pool) s out = cc
timer-spent S queue (Deferred pool) s out = cc

-- what is set anew has spent nothing by that
reset-spent : (S : ScenarioContents) (s : State) (w cpu ticks : ℕ) (p : Pending) → is_placed p.place ≡ false
    → (place_after S (taken_off S s w (Some p)) w cpu ticks).spent ≡ s.spent
reset-spent S s w cpu ticks p out =
    placed-spent S (taken_off S s w (Some p)) w cpu ticks ∙ timer-spent S (queue_of S w) p.place (with_pending s w None) out

-- who skips stamps, sets the timer and counts that as so many steps has set it so many times
pub reset-repeats :
    (old skipped reset new : Loaded) (w : WorkId) (cpu ticks : ℕ) (p : Pending) (most count : ℕ)
    → operands old.scenario old.state (Mod w cpu ticks) ≡ None → is_disabled old.state w.0 ≡ false → pending_at old.state w.0 ≡ Some p
    → is_placed p.place ≡ false → 0 < ticks → 0 < count → count ≤ most → old.state.spent + count ≤ old.scenario.steps
    → skipped ≡ holding old.scenario (skipping old.state (count - 1))
    → reset ≡ holding skipped.scenario (place_after skipped.scenario (taken_off skipped.scenario skipped.state w.0 (Some p)) w.0 cpu ticks)
    → new ≡ holding reset.scenario (with_spent reset.state (reset.state.spent + count))
    → HasRepeated old.scenario old.state (Mod w cpu ticks) Changed most count new.state
reset-repeats old skipped reset new w cpu ticks p most count there enabled pends out later some few left skips sets spends =
    let S = old.scenario in
    let s = old.state in
    let after : State = place_after S (taken_off S (skipping s (count - 1)) w.0 (Some p)) w.0 cpu ticks in
    let is : reset ≡ holding S after =
    sets ∙ ap (λ (m : Loaded). holding m.scenario (place_after m.scenario (taken_off m.scenario m.state w.0 (Some p)) w.0 cpu ticks)) skips
    in
    let state : new.state ≡ with_spent after (s.spent + count) =
    ap (λ (m : Loaded). m.state) spends
    ∙ ap (λ (m : Loaded). with_spent m.state (m.state.spent + count)) is
    ∙ ap (λ (n : ℕ). with_spent after (n + count)) (reset-spent S (skipping s (count - 1)) w.0 cpu ticks p out)
    in
    subst (λ (t : State). HasRepeated S s (Mod w cpu ticks) Changed most count t) (sym state)
    (mod_repeats S s w cpu ticks p most count there enabled pends out later some few left)
