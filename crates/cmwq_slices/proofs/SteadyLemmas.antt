-- Phases in which is done what the instances of works do go on in a tick.
use Rattle.std.proofs.Common.{◌≡◌, ℕ, ◌+◌, ◌*◌, ◌<◌, ◌≤◌, Bool, true, false, true≢false, cond, ◌&&◌, ◌||◌, List, [], ◌∷◌, ◌++◌, length, Option, Some, None, arith, refl, sym, ap, ◌∙◌, subst, eq-eqb}
use Rattle.std.proofs.lemmas.Bool.{and_parts, eqb-true, lt-ltb}
use Rattle.std.specs.Cmp.Derive.{both_true}
use Rattle.std.specs.Prelude.{◌==◌, is_none, nat_le}
use Rattle.cmwq_types.specs.Contents.{ScenarioContents}
use Rattle.cmwq_types.specs.First.{first_below}
use Rattle.cmwq_table.specs.Counts.{burns, is_runnable, is_some_work, running_before, runs}
use Rattle.cmwq_table.specs.State.{State, is_high, running_at}
use Rattle.cmwq_table.specs.declared.state.Running.{Running}
use Rattle.cmwq_picture.specs.Picture.{mode_sign}
use Rattle.cmwq_picture.specs.declared.cell.Sign.{Sign}
use Rattle.cmwq_picture.specs.declared.cell.Sign.TheVariants as sign
use Rattle.cmwq_picture.specs.contracts.cell.SignPartialEq.TheImpl as sign_equality
use Rattle.cmwq_picture.proofs.TickLemmas.{IsTick}
use Rattle.cmwq_slices.specs.Slices.{AreDone, begun, doing, ended_from, ended_phase, phase_doing, phase_then, phases_after, phases_ended, phases_from, run_doing, slice_to}
use Rattle.cmwq_slices.specs.declared.doing.Doing.{Doing}
use Rattle.cmwq_slices.specs.declared.doing.Half.{Half}
use Rattle.cmwq_slices.specs.declared.doing.Half.TheVariants as half
use Rattle.cmwq_slices.specs.declared.phases.OpenPhase.{OpenPhase}
use Rattle.cmwq_slices.specs.declared.phases.PhaseSlice.{PhaseSlice}
use Rattle.cmwq_slices.specs.declared.phases.WorkPhases.{WorkPhases}
use Rattle.cmwq_slices.specs.contracts.doing.DoingPartialEq.TheImpl as doing_equality
use Rattle.cmwq_slices.proofs.DoingLemmas.{doing-same}

-- Equality of what is done is exact.

same_sign : (x y : Sign) → sign_equality.ghosts.eq x y ≡ true → x ≡ y
same_sign sign.Burns sign.Burns h = refl
same_sign sign.Waits sign.Waits h = refl
same_sign sign.Sleeps sign.Sleeps h = refl
same_sign sign.Listed sign.Listed h = refl
same_sign sign.Inactive sign.Inactive h = refl
same_sign sign.Timed sign.Timed h = refl
same_sign sign.Deferred sign.Deferred h = refl
same_sign x y h = absurd (true≢false (sym h))

equal_sign : (x : Sign) → sign_equality.ghosts.eq x x ≡ true
equal_sign sign.Burns = refl
equal_sign sign.Waits = refl
equal_sign sign.Sleeps = refl
equal_sign sign.Listed = refl
equal_sign sign.Inactive = refl
equal_sign sign.Timed = refl
equal_sign sign.Deferred = refl

pub same_doing : (x y : Doing) → doing_equality.ghosts.eq x y ≡ true → x ≡ y
same_doing x y h =
    let parts = and_parts (x.born == y.born) (sign_equality.ghosts.eq x.sign y.sign) h in
    λ i. record { born = eqb-true x.born y.born parts.0 i; sign = same_sign x.sign y.sign parts.1 i }

equal_doing : (x : Doing) → doing_equality.ghosts.eq x x ≡ true
equal_doing x = both_true (eq-eqb x.born x.born refl) (equal_sign x.sign)

-- One phase.

then-done : (time : ℕ) (phase : Option OpenPhase) (now : Option Doing) → phase_doing (phase_then time phase now) ≡ now
then-done time (Some phase) (Some now) = chosen (doing_equality.ghosts.eq phase.doing now) refl where
  chosen : (b : Bool) → doing_equality.ghosts.eq phase.doing now ≡ b → phase_doing (cond b (Some phase) (begun time (Some now))) ≡ Some now
  chosen true e = ap (λ (d : Doing). Some d) (same_doing phase.doing now e)
  chosen false e = refl
then-done time (Some phase) None = refl
then-done time None (Some now) = refl
then-done time None None = refl

pub then-stays : (time : ℕ) (phase : Option OpenPhase) (now : Option Doing) → phase_doing phase ≡ now → phase_then time phase now ≡ phase
then-stays time (Some phase) now e =
    subst (λ (n : Option Doing). phase_then time (Some phase) n ≡ Some phase) e
    (ap (λ (b : Bool). cond b (Some phase) (begun time (Some phase.doing))) (equal_doing phase.doing))
then-stays time None now e = subst (λ (n : Option Doing). phase_then time None n ≡ None) e refl

pub none-ended : (time w : ℕ) (half : Half) (phase : Option OpenPhase) (now : Option Doing) → phase_doing phase ≡ now → ended_phase time w half phase now ≡ []
none-ended time w half (Some phase) now e =
    subst (λ (n : Option Doing). ended_phase time w half (Some phase) n ≡ []) e
    (ap (λ (b : Bool). cond b [] (slice_to time w half (Some phase))) (equal_doing phase.doing))
none-ended time w half None now e = subst (λ (n : Option Doing). ended_phase time w half None n ≡ []) e refl

-- All phases.

pub pass-done : (time : ℕ) (S : ScenarioContents) (s : State) (w : ℕ) (all : List WorkPhases) → AreDone S s w (phases_from time S s w all)
pass-done time S s w [] = tt
pass-done time S s w (phases ∷ more) = (then-done time phases.running (doing S s w half.Running), then-done time phases.pending (doing S s w half.Pending), pass-done time S s (w + 1) more)

pub all-stay : (time : ℕ) (S : ScenarioContents) (s : State) (w : ℕ) (all : List WorkPhases) → AreDone S s w all → phases_from time S s w all ≡ all
all-stay time S s w [] done = refl
all-stay time S s w (phases ∷ more) done =
    let running = then-stays time phases.running (doing S s w half.Running) done.0 in
    let pending = then-stays time phases.pending (doing S s w half.Pending) done.1 in
    ap (λ (r : Option OpenPhase). record { running = r; pending = phase_then time phases.pending (doing S s w half.Pending) } ∷ phases_from time S s (w + 1) more) running
    ∙ ap (λ (p : Option OpenPhase). record { running = phases.running; pending = p } ∷ phases_from time S s (w + 1) more) pending
    ∙ ap (λ (others : List WorkPhases). phases ∷ others) (all-stay time S s (w + 1) more done.2)

pub none-end : (time : ℕ) (S : ScenarioContents) (s : State) (w : ℕ) (all : List WorkPhases) → AreDone S s w all → ended_from time S s w all ≡ []
none-end time S s w [] done = refl
none-end time S s w (phases ∷ more) done =
    ap (λ (xs : List PhaseSlice). (xs ++ ended_phase time w half.Pending phases.pending (doing S s w half.Pending)) ++ ended_from time S s (w + 1) more) (none-ended time w half.Running phases.running (doing S s w half.Running) done.0)
    ∙ ap (λ (xs : List PhaseSlice). xs ++ ended_from time S s (w + 1) more) (none-ended time w half.Pending phases.pending (doing S s w half.Pending) done.1)
    ∙ none-end time S s (w + 1) more done.2

pub tick-done : (S : ScenarioContents) (s t : State) → IsTick S s t → (w : ℕ) (all : List WorkPhases) → w + length all ≤ length S.works → AreDone S s w all → AreDone S t w all
tick-done S s t ticked w [] few done = tt
tick-done S s t ticked w (phases ∷ more) few done = (
  done.0 ∙ sym (doing-same S s t ticked w (omega (arith, few)) half.Running),
  done.1 ∙ sym (doing-same S s t ticked w (omega (arith, few)) half.Pending),
  tick-done S s t ticked (w + 1) more (omega (arith, few)) done.2,
)

-- Of two scenarios that have as many CPUs and as many works the instances do the same in a state.

burns_by : ℕ → ℕ → State → ℕ → Running → Bool
burns_by cpus works s w r =
    let head = λ (pool : ℕ). first_below (running_before s) (λ w. runs (λ r. (r.pool == pool) && is_runnable r.mode) (running_at s w)) works in
    cond (nat_le (2 * cpus) r.pool) (is_runnable r.mode) (is_some_work (head r.pool) w && (is_high r.pool || is_none (head (r.pool + 1))))

burns-by : (S : ScenarioContents) (s : State) (w : ℕ) (r : Running) → burns S s w (Some r) ≡ burns_by S.cpus (length S.works) s w r
unfolding burns_by
burns-by S s w r = refl

module _ (S T : ScenarioContents) (cpus : S.cpus ≡ T.cpus) (works : length S.works ≡ length T.works) (s : State) where
  run-other : (w : ℕ) (r : Option Running) → run_doing S s w r ≡ run_doing T s w r
  run-other w None = refl
  run-other w (Some r) =
      let same : burns S s w (Some r) ≡ burns T s w (Some r) =
      burns-by S s w r ∙ ap (λ (n : ℕ). burns_by n (length S.works) s w r) cpus ∙ ap (λ (n : ℕ). burns_by T.cpus n s w r) works ∙ sym (burns-by T s w r) in
      ap (λ (b : Bool). Some (record { born = r.born; sign = cond b sign.Burns (mode_sign r.mode) })) same

  pub done-other : (w : ℕ) (all : List WorkPhases) → AreDone S s w all → AreDone T s w all
  done-other w [] done = tt
  done-other w (phases ∷ more) done = (done.0 ∙ run-other w (running_at s w), done.1, done-other (w + 1) more done.2)

-- So a tick ends none of them, and leaves them as they are.

pub steady-ended : (S : ScenarioContents) (s : State) (time : ℕ) (all : List WorkPhases) → s.time < time → AreDone S s 0 all → [] ≡ phases_ended S s time all
steady-ended S s time all later done = sym (ap (λ (b : Bool). cond b (ended_from s.time S s 0 all) []) (lt-ltb s.time time later) ∙ none-end s.time S s 0 all done)

pub steady-phases : (S : ScenarioContents) (s : State) (time : ℕ) (all : List WorkPhases) → s.time < time → AreDone S s 0 all → all ≡ phases_after S s time all
steady-phases S s time all later done = sym (ap (λ (b : Bool). cond b (phases_from s.time S s 0 all) all) (lt-ltb s.time time later) ∙ all-stay s.time S s 0 all done)
