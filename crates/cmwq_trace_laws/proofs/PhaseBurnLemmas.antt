-- The ticks in slices in which a work burns are those in which it burns.
use Rattle.std.proofs.Common.{◌≡◌, ℕ, zero, suc, ◌+◌, ◌-◌, ◌<◌, ◌≤◌, Bool, true, false, cond, ◌&&◌, List, [], ◌∷◌, ◌++◌, length, Option, Some, None, arith, refl, sym, ap, ◌∙◌, subst}
use Rattle.std.proofs.lemmas.Bool.{ltb-true, eqb-true, ne_eqb}
use Rattle.std.proofs.lemmas.List.{length-replicate}
use Rattle.std.proofs.lemmas.Bool.Decides.{nat_tests}
use Rattle.std.specs.Prelude.{nat_lt, ◌==◌}
use Rattle.cmwq_types.specs.Contents.{ScenarioContents}
use Rattle.cmwq_types.specs.Setting.{IsSetting}
use Rattle.cmwq_types.specs.declared.instr.Instr.{Instr}
use Rattle.cmwq_types.specs.declared.reply.Mode.{Mode}
use Rattle.cmwq_types.specs.declared.reply.Mode.TheVariants.{Runnable, Asleep}
use Rattle.cmwq_types.proofs.SettingLemmas.{IsSetting-valid}
use Rattle.cmwq_table.specs.Counts.{burns}
use Rattle.cmwq_table.specs.State.{State, running_at, start}
use Rattle.cmwq_table.specs.Table.{table}
use Rattle.cmwq_table.specs.declared.state.Running.{Running}
use Rattle.cmwq_burning.specs.Burning.{ticks_burned}
use Rattle.cmwq_picture.specs.Picture.{mode_sign}
use Rattle.cmwq_picture.specs.declared.cell.Sign.TheVariants as sign
use Rattle.cmwq_picture.proofs.TickLemmas.{time-goes_on}
use Rattle.cmwq_slices.specs.Slices.{begun, doing, ended_from, ended_phase, goes_on, no_phases, phase_then, phases_from, run_doing, slice_to, slices_from, slices_to}
use Rattle.cmwq_slices.specs.declared.doing.Doing.{Doing}
use Rattle.cmwq_slices.specs.declared.doing.Half.TheVariants as half
use Rattle.cmwq_slices.specs.declared.phases.OpenPhase.{OpenPhase}
use Rattle.cmwq_slices.specs.declared.phases.PhaseSlice.{PhaseSlice}
use Rattle.cmwq_slices.specs.declared.phases.WorkPhases.{WorkPhases}
use Rattle.cmwq_slices.specs.contracts.doing.DoingPartialEq.TheImpl as doing_equality
use Rattle.cmwq_slices.proofs.CallerLemmas.{is-tick, phases-length, same_doing}
use Rattle.cmwq_trace_laws.specs.PhaseLaws.{BurnsAsCounted, burn_ticks, is_burning}
use Rattle.cmwq_trace_laws.proofs.PhaseLengthLemmas.{AllBegan, BeganBefore, all-later, none-began, phases-began}

burn-append : (w : ℕ) (xs ys : List PhaseSlice) → burn_ticks w (xs ++ ys) ≡ burn_ticks w xs + burn_ticks w ys
burn-append w [] ys = omega arith
burn-append w (x ∷ xs) ys = let more : burn_ticks w (xs ++ ys) ≡ burn_ticks w xs + burn_ticks w ys = burn-append w xs ys in omega (arith, more)

-- what an open phase has burned up to a time, and what is burned in a tick
abbrev phase_burn : ℕ → Option OpenPhase → ℕ
phase_burn time (Some phase) = cond (is_burning phase.doing.sign) (time - phase.since) 0
phase_burn time None = 0

abbrev now_burn : Option Doing → ℕ
now_burn (Some now) = cond (is_burning now.sign) 1 0
now_burn None = 0

abbrev at_work : ℕ → ℕ → ℕ → ℕ
at_work w k n = cond (k == w) n 0

slice-burned : (time w k : ℕ) (phase : Option OpenPhase) → burn_ticks w (slice_to time k half.Running phase) ≡ at_work w k (phase_burn time phase)
slice-burned time w k (Some phase) = chosen (k == w) (is_burning phase.doing.sign) where
  chosen : (a b : Bool) → cond (a && b) (time - phase.since) 0 + 0 ≡ cond a (cond b (time - phase.since) 0) 0
  chosen true true = omega arith
  chosen true false = refl
  chosen false b = refl
slice-burned time w k None = chosen (k == w) where
  chosen : (a : Bool) → ◌≡◌ {A = ℕ} 0 (cond a 0 0)
  chosen true = refl
  chosen false = refl

pending-burned : (time w k : ℕ) (phase : Option OpenPhase) → burn_ticks w (slice_to time k half.Pending phase) ≡ 0
pending-burned time w k (Some phase) = chosen (k == w) where
  chosen : (a : Bool) → cond (a && false) (time - phase.since) 0 + 0 ≡ 0
  chosen true = refl
  chosen false = refl
pending-burned time w k None = refl

pending-ended : (time w k : ℕ) (phase : Option OpenPhase) (now : Option Doing) → burn_ticks w (ended_phase time k half.Pending phase now) ≡ 0
pending-ended time w k phase now = chosen (goes_on phase now) where
  chosen : (b : Bool) → burn_ticks w (cond b [] (slice_to time k half.Pending phase)) ≡ 0
  chosen true = refl
  chosen false = pending-burned time w k phase

-- one phase and one tick, at the work itself
tick-burned : (time : ℕ) (phase : Option OpenPhase) (now : Option Doing) → BeganBefore time phase
    → cond (goes_on phase now) 0 (phase_burn time phase) + phase_burn (time + 1) (phase_then time phase now) ≡ phase_burn time phase + now_burn now
tick-burned time (Some phase) (Some now) before = chosen (doing_equality.ghosts.eq phase.doing now) refl where
  begins : (b : Bool) → cond b ((time + 1) - time) 0 ≡ cond b 1 0
  begins true = omega arith
  begins false = refl

  goes : (b : Bool) → 0 + cond b ((time + 1) - phase.since) 0 ≡ cond b (time - phase.since) 0 + cond b 1 0
  goes true = omega (arith, before)
  goes false = refl

  chosen : (b : Bool) → doing_equality.ghosts.eq phase.doing now ≡ b
      → cond b 0 (phase_burn time (Some phase)) + phase_burn (time + 1) (cond b (Some phase) (begun time (Some now))) ≡ phase_burn time (Some phase) + now_burn (Some now)
  chosen true e =
      goes (is_burning phase.doing.sign)
      ∙ ap (λ (d : Doing). phase_burn time (Some phase) + now_burn (Some d)) (same_doing phase.doing now e)
  chosen false e = ap (λ (n : ℕ). phase_burn time (Some phase) + n) (begins (is_burning now.sign))
tick-burned time (Some phase) None before = omega arith
tick-burned time None (Some now) before = begins (is_burning now.sign) where
  begins : (b : Bool) → 0 + cond b ((time + 1) - time) 0 ≡ 0 + cond b 1 0
  begins true = omega arith
  begins false = refl
tick-burned time None None before = refl

running-ended : (time w k : ℕ) (phase : Option OpenPhase) (now : Option Doing) → burn_ticks w (ended_phase time k half.Running phase now) ≡ at_work w k (cond (goes_on phase now) 0 (phase_burn time phase))
running-ended time w k phase now = chosen (goes_on phase now) where
  none : (a : Bool) → ◌≡◌ {A = ℕ} 0 (cond a 0 0)
  none true = refl
  none false = refl

  chosen : (b : Bool) → burn_ticks w (cond b [] (slice_to time k half.Running phase)) ≡ at_work w k (cond b 0 (phase_burn time phase))
  chosen true = none (k == w)
  chosen false = slice-burned time w k phase

-- All works from a number on.

abbrev open_burn : ℕ → ℕ → ℕ → List WorkPhases → ℕ
open_burn time w k [] = 0
open_burn time w k (phases ∷ more) = at_work w k (phase_burn time phases.running) + open_burn time w (k + 1) more

abbrev all_now : ScenarioContents → State → ℕ → ℕ → List WorkPhases → ℕ
all_now S s w k [] = 0
all_now S s w k (phases ∷ more) = at_work w k (now_burn (doing S s k half.Running)) + all_now S s w (k + 1) more

closed-burned : (time w k : ℕ) (all : List WorkPhases) → burn_ticks w (slices_to time k all) ≡ open_burn time w k all
closed-burned time w k [] = refl
closed-burned time w k (phases ∷ more) =
    let running = slice_to time k half.Running phases.running in
    let pending = slice_to time k half.Pending phases.pending in
    let a = burn-append w (running ++ pending) (slices_to time (k + 1) more) in
    let b = burn-append w running pending in
    let c = slice-burned time w k phases.running in
    let d = pending-burned time w k phases.pending in
    let e = closed-burned time w (k + 1) more in
    omega (arith, a, b, c, d, e)

at-split : (b : Bool) (x y p q : ℕ) → x + y ≡ p + q → cond b x 0 + cond b y 0 ≡ cond b p 0 + cond b q 0
at-split true x y p q e = e
at-split false x y p q e = refl

all-burned : (time : ℕ) (S : ScenarioContents) (s : State) (w k : ℕ) (all : List WorkPhases) → AllBegan time all
    → burn_ticks w (ended_from time S s k all) + open_burn (time + 1) w k (phases_from time S s k all) ≡ open_burn time w k all + all_now S s w k all
all-burned time S s w k [] began = refl
all-burned time S s w k (phases ∷ more) began =
    let now = doing S s k half.Running in
    let running = ended_phase time k half.Running phases.running now in
    let pending = ended_phase time k half.Pending phases.pending (doing S s k half.Pending) in
    let a = burn-append w (running ++ pending) (ended_from time S s (k + 1) more) in
    let b = burn-append w running pending in
    let c = running-ended time w k phases.running now in
    let d = pending-ended time w k phases.pending (doing S s k half.Pending) in
    let e = at-split (k == w) (cond (goes_on phases.running now) 0 (phase_burn time phases.running)) (phase_burn (time + 1) (phase_then time phases.running now)) (phase_burn time phases.running) (now_burn now)
    (tick-burned time phases.running now began.0) in
    let f = all-burned time S s w (k + 1) more began.2 in
    omega (arith, a, b, c, d, e, f)

-- Of the work itself.

mode-unburned : (mode : Mode) → is_burning (mode_sign mode) ≡ false
mode-unburned Runnable = refl
mode-unburned (Asleep until) = refl

now-burned : (S : ScenarioContents) (s : State) (w : ℕ) (r : Option Running) → now_burn (run_doing S s w r) ≡ cond (burns S s w r) 1 0
now-burned S s w None = refl
now-burned S s w (Some r) = chosen (burns S s w (Some r)) where
  chosen : (b : Bool) → ◌≡◌ {A = ℕ} (cond (is_burning (cond b sign.Burns (mode_sign r.mode))) 1 0) (cond b 1 0)
  chosen true = refl
  chosen false = ap (λ (b : Bool). cond {A = ℕ} b 1 0) (mode-unburned r.mode)

none-now : (S : ScenarioContents) (s : State) (w k : ℕ) (all : List WorkPhases) → w < k → all_now S s w k all ≡ 0
none-now S s w k [] past = refl
none-now S s w k (phases ∷ more) past =
    let other : (k == w) ≡ false = ne_eqb k w (λ same. absurd (omega (arith, past, same))) in
    let here : at_work w k (now_burn (doing S s k half.Running)) ≡ 0 = ap (λ (b : Bool). cond b (now_burn (doing S s k half.Running)) 0) other in
    let rest = none-now S s w (k + 1) more (omega (arith, past)) in
    omega (arith, here, rest)

one-now : (S : ScenarioContents) (s : State) (w k : ℕ) (all : List WorkPhases) → k ≤ w → w < k + length all → all_now S s w k all ≡ cond (burns S s w (running_at s w)) 1 0
one-now S s w k [] from to = absurd (omega (arith, from, to))
one-now S s w k (phases ∷ more) from to = chosen (k == w) refl (λ past. none-now S s w (k + 1) more past) (λ later. one-now S s w (k + 1) more later (omega (arith, to))) where
  chosen : (b : Bool) → (k == w) ≡ b → (w < k + 1 → all_now S s w (k + 1) more ≡ 0) → (k + 1 ≤ w → all_now S s w (k + 1) more ≡ cond (burns S s w (running_at s w)) 1 0)
      → cond b (now_burn (doing S s k half.Running)) 0 + all_now S s w (k + 1) more ≡ cond (burns S s w (running_at s w)) 1 0
  chosen true e none rest =
      let same : k ≡ w = eqb-true k w e in
      let here : now_burn (doing S s k half.Running) ≡ cond (burns S s w (running_at s w)) 1 0 = ap (λ (n : ℕ). now_burn (doing S s n half.Running)) same ∙ now-burned S s w (running_at s w) in
      let no_more : all_now S s w (k + 1) more ≡ 0 = none (omega (arith, same)) in
      omega (arith, here, no_more)
  chosen false e none rest = (
      let later : k + 1 ≤ w = grind (arith, nat_tests, e, from) in
      let more_now = rest later in
      omega (arith, more_now)
      )

-- Along a run.

begun-none : (time w k n : ℕ) → open_burn time w k (no_phases n) ≡ 0
begun-none time w k zero = refl
begun-none time w k (suc n) = chosen (k == w) (begun-none time w (k + 1) n) where
  chosen : (b : Bool) → open_burn time w (k + 1) (no_phases n) ≡ 0 → cond b 0 0 + open_burn time w (k + 1) (no_phases n) ≡ 0
  chosen true e = omega (arith, e)
  chosen false e = omega (arith, e)

run-burned : (S : ScenarioContents) → IsSetting S → (w : ℕ) → w < length S.works → (all : List WorkPhases) (s : State) (instrs : List Instr) → length all ≡ length S.works → AllBegan s.time all
    → burn_ticks w (slices_from S all s instrs) ≡ open_burn s.time w 0 all + ticks_burned S s instrs w
run-burned S setting w there all s [] many began = (let e = closed-burned s.time w 0 all in omega (arith, e))
run-burned S setting w there all s (i ∷ is) many began =
    chosen (nat_lt s.time (table S s i).0.time) refl (λ next long before. run-burned S setting w there next (table S s i).0 is long before) where
      t : State
      t = (table S s i).0

      chosen : (b : Bool) → nat_lt s.time t.time ≡ b
          → ((next : List WorkPhases) → length next ≡ length S.works → AllBegan t.time next → burn_ticks w (slices_from S next t is) ≡ open_burn t.time w 0 next + ticks_burned S t is w)
          → burn_ticks w (cond b (ended_from s.time S s 0 all) [] ++ slices_from S (cond b (phases_from s.time S s 0 all) all) t is)
          ≡ open_burn s.time w 0 all + (cond (b && burns S s w (running_at s w)) 1 0 + ticks_burned S t is w)
      chosen true e rest =
          let later : s.time < t.time = ltb-true s.time t.time e in
          let next = phases_from s.time S s 0 all in
          let after : t.time ≡ s.time + 1 = ap (λ (u : State). u.time) (is-tick S s t setting (i, refl) later).1 in
          let before = all-later (s.time + 1) t.time (omega (arith, after)) next (phases-began s.time S s 0 all began) in
          let a = burn-append w (ended_from s.time S s 0 all) (slices_from S next t is) in
          let b = rest next (phases-length s.time S s 0 all ∙ many) before in
          let c = all-burned s.time S s w 0 all began in
          let d = one-now S s w 0 all (omega arith) (omega (arith, there, many)) in
          let f : open_burn t.time w 0 next ≡ open_burn (s.time + 1) w 0 next = ap (λ (n : ℕ). open_burn n w 0 next) after in
          omega (arith, a, b, c, d, f)
      chosen false e rest =
          let on = time-goes_on S s i setting in
          let after : t.time ≡ s.time = grind (arith, nat_tests, e, on) in
          let b = rest all many (subst (λ (n : ℕ). AllBegan n all) (sym after) began) in
          let f : open_burn t.time w 0 all ≡ open_burn s.time w 0 all = ap (λ (n : ℕ). open_burn n w 0 all) after in
          omega (arith, b, f)

pub burns_as_counted : BurnsAsCounted
unfolding BurnsAsCounted
burns_as_counted S valid instrs w there =
    let whole = run-burned S (IsSetting-valid S valid) w there (no_phases (length S.works)) (start S) instrs (length-replicate (length S.works) (record { running = None; pending = None })) (none-began 0 (length S.works)) in
    let none = begun-none 0 w 0 (length S.works) in
    omega (arith, whole, none)
