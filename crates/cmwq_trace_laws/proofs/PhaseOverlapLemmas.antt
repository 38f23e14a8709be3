-- Slices of one thread stand one behind another.
use Rattle.std.proofs.Common.{◌≡◌, ℕ, ◌+◌, ◌<◌, ◌≤◌, Bool, true, false, cond, ◌&&◌, List, [], ◌∷◌, ◌++◌, length, Option, Some, None, arith, refl, sym, ap, ◌∙◌, subst, eq-eqb}
use Rattle.std.proofs.lemmas.Bool.{ltb-true, eqb-true, ne_eqb}
use Rattle.std.proofs.lemmas.Bool.Decides.{nat_tests}
use Rattle.std.proofs.lemmas.List.{length-replicate}
use Rattle.std.specs.Prelude.{nat_lt, ◌==◌}
use Rattle.cmwq_types.specs.Contents.{ScenarioContents}
use Rattle.cmwq_types.specs.Setting.{IsSetting}
use Rattle.cmwq_types.specs.declared.instr.Instr.{Instr}
use Rattle.cmwq_types.proofs.SettingLemmas.{IsSetting-valid}
use Rattle.cmwq_table.specs.State.{State, start}
use Rattle.cmwq_table.specs.Table.{table}
use Rattle.cmwq_picture.proofs.TickLemmas.{time-goes_on}
use Rattle.cmwq_slices.specs.Slices.{begun, doing, ended_from, ended_phase, goes_on, no_phases, phase_then, phases_from, slice_to, slices_from, slices_to}
use Rattle.cmwq_slices.specs.declared.doing.Doing.{Doing}
use Rattle.cmwq_slices.specs.declared.doing.Half.{Half}
use Rattle.cmwq_slices.specs.declared.doing.Half.TheVariants as half
use Rattle.cmwq_slices.specs.declared.phases.OpenPhase.{OpenPhase}
use Rattle.cmwq_slices.specs.declared.phases.PhaseSlice.{PhaseSlice}
use Rattle.cmwq_slices.specs.declared.phases.WorkPhases.{WorkPhases}
use Rattle.cmwq_slices.proofs.CallerLemmas.{phases-length}
use Rattle.cmwq_trace_laws.specs.PhaseLaws.{InOrder, NeverOverlaps, is_same_half, slices_of}

of-append : (w : ℕ) (h : Half) (xs ys : List PhaseSlice) → slices_of w h (xs ++ ys) ≡ slices_of w h xs ++ slices_of w h ys
of-append w h [] ys = refl
of-append w h (x ∷ xs) ys = chosen ((x.work.0 == w) && is_same_half x.half h) (of-append w h xs ys) where
  chosen : (b : Bool) → slices_of w h (xs ++ ys) ≡ slices_of w h xs ++ slices_of w h ys
      → cond b (x ∷ slices_of w h (xs ++ ys)) (slices_of w h (xs ++ ys)) ≡ cond b (x ∷ slices_of w h xs) (slices_of w h xs) ++ slices_of w h ys
  chosen true e = ap (λ (more : List PhaseSlice). x ∷ more) e
  chosen false e = e

-- Of one work, what a thread has of it.

abbrev phase_of : Half → WorkPhases → Option OpenPhase
phase_of half.Running phases = phases.running
phase_of half.Pending phases = phases.pending

slice-other : (time w k : ℕ) (g h : Half) (phase : Option OpenPhase) → ((k == w) && is_same_half g h) ≡ false → slices_of w h (slice_to time k g phase) ≡ []
slice-other time w k g h (Some phase) other = ap (λ (b : Bool). cond b (record { work = record { 0 = k }; half = g; sign = phase.doing.sign; since = phase.since; until = time } ∷ []) []) other
slice-other time w k g h None other = refl

slice-own : (time w : ℕ) (h : Half) (phase : Option OpenPhase) → slices_of w h (slice_to time w h phase) ≡ slice_to time w h phase
slice-own time w h (Some phase) = ap (λ (b : Bool). cond b (record { work = record { 0 = w }; half = h; sign = phase.doing.sign; since = phase.since; until = time } ∷ []) []) (own h) where
  own : (g : Half) → ((w == w) && is_same_half g g) ≡ true
  own half.Running = ap (λ (b : Bool). b && true) (eq-eqb w w refl)
  own half.Pending = ap (λ (b : Bool). b && true) (eq-eqb w w refl)
slice-own time w h None = refl

if-of : (w : ℕ) (h : Half) (b : Bool) (xs ys : List PhaseSlice) → slices_of w h xs ≡ ys → slices_of w h (cond b [] xs) ≡ cond b [] ys
if-of w h true xs ys e = refl
if-of w h false xs ys e = e

if-none : (b : Bool) → ◌≡◌ {A = List PhaseSlice} (cond b [] []) []
if-none true = refl
if-none false = refl

ended-other : (time w k : ℕ) (g h : Half) (phase : Option OpenPhase) (now : Option Doing) → ((k == w) && is_same_half g h) ≡ false → slices_of w h (ended_phase time k g phase now) ≡ []
ended-other time w k g h phase now other = if-of w h (goes_on phase now) (slice_to time k g phase) [] (slice-other time w k g h phase other) ∙ if-none (goes_on phase now)

ended-own : (time w : ℕ) (h : Half) (phase : Option OpenPhase) (now : Option Doing) → slices_of w h (ended_phase time w h phase now) ≡ ended_phase time w h phase now
ended-own time w h phase now = if-of w h (goes_on phase now) (slice_to time w h phase) (slice_to time w h phase) (slice-own time w h phase)

other-work : (w k : ℕ) (g h : Half) → (k ≡ w → ⊥) → ((k == w) && is_same_half g h) ≡ false
other-work w k g h other = ap (λ (b : Bool). b && is_same_half g h) (ne_eqb k w other)

other-half : (b : Bool) → (b && false) ≡ false
other-half true = refl
other-half false = refl

nil-right : (xs : List PhaseSlice) → xs ++ [] ≡ xs
nil-right [] = refl
nil-right (x ∷ xs) = ap (λ (more : List PhaseSlice). x ∷ more) (nil-right xs)

pair-own : (w : ℕ) (h : Half) (running pending : List PhaseSlice) (own : Half → List PhaseSlice) → own half.Running ≡ running → own half.Pending ≡ pending
    → slices_of w h (own h) ≡ own h → (h ≡ half.Running → slices_of w h pending ≡ []) → (h ≡ half.Pending → slices_of w h running ≡ []) → slices_of w h (running ++ pending) ≡ own h
pair-own w half.Running running pending own r p mine not_pending not_running =
    of-append w half.Running running pending
    ∙ ap (λ (xs : List PhaseSlice). slices_of w half.Running running ++ xs) (not_pending refl) ∙ nil-right (slices_of w half.Running running)
    ∙ ap (λ (xs : List PhaseSlice). slices_of w half.Running xs) (sym r) ∙ mine
pair-own w half.Pending running pending own r p mine not_pending not_running =
    of-append w half.Pending running pending
    ∙ ap (λ (xs : List PhaseSlice). xs ++ slices_of w half.Pending pending) (not_running refl)
    ∙ ap (λ (xs : List PhaseSlice). slices_of w half.Pending xs) (sym p) ∙ mine

pair-other : (w : ℕ) (h : Half) (running pending : List PhaseSlice) → slices_of w h running ≡ [] → slices_of w h pending ≡ [] → slices_of w h (running ++ pending) ≡ []
pair-other w h running pending r p = of-append w h running pending ∙ ap (λ (xs : List PhaseSlice). xs ++ slices_of w h pending) r ∙ p

-- Of all works from a number on.

abbrev thread_open : ℕ → Half → ℕ → List WorkPhases → Option OpenPhase
thread_open w h k [] = None
thread_open w h k (phases ∷ more) = cond (k == w) (phase_of h phases) (thread_open w h (k + 1) more)

apart : (w k : ℕ) → w < k → k ≡ w → ⊥
apart w k past same = absurd (omega (arith, past, same))

ended-past : (time : ℕ) (S : ScenarioContents) (s : State) (w : ℕ) (h : Half) (k : ℕ) (all : List WorkPhases) → w < k → slices_of w h (ended_from time S s k all) ≡ []
ended-past time S s w h k [] past = refl
ended-past time S s w h k (phases ∷ more) past =
    let running = ended_phase time k half.Running phases.running (doing S s k half.Running) in
    let pending = ended_phase time k half.Pending phases.pending (doing S s k half.Pending) in
    of-append w h (running ++ pending) (ended_from time S s (k + 1) more)
    ∙ ap (λ (xs : List PhaseSlice). xs ++ slices_of w h (ended_from time S s (k + 1) more))
    (pair-other w h running pending (ended-other time w k half.Running h phases.running (doing S s k half.Running) (other-work w k half.Running h (apart w k past)))
    (ended-other time w k half.Pending h phases.pending (doing S s k half.Pending) (other-work w k half.Pending h (apart w k past))))
    ∙ ended-past time S s w h (k + 1) more (omega (arith, past))

closed-past : (time w : ℕ) (h : Half) (k : ℕ) (all : List WorkPhases) → w < k → slices_of w h (slices_to time k all) ≡ []
closed-past time w h k [] past = refl
closed-past time w h k (phases ∷ more) past =
    let running = slice_to time k half.Running phases.running in
    let pending = slice_to time k half.Pending phases.pending in
    of-append w h (running ++ pending) (slices_to time (k + 1) more)
    ∙ ap (λ (xs : List PhaseSlice). xs ++ slices_of w h (slices_to time (k + 1) more))
    (pair-other w h running pending (slice-other time w k half.Running h phases.running (other-work w k half.Running h (apart w k past)))
    (slice-other time w k half.Pending h phases.pending (other-work w k half.Pending h (apart w k past))))
    ∙ closed-past time w h (k + 1) more (omega (arith, past))

-- the work itself
ended-here : (time : ℕ) (S : ScenarioContents) (s : State) (w : ℕ) (h : Half) (phases : WorkPhases)
    → slices_of w h (ended_phase time w half.Running phases.running (doing S s w half.Running) ++ ended_phase time w half.Pending phases.pending (doing S s w half.Pending))
    ≡ ended_phase time w h (phase_of h phases) (doing S s w h)
ended-here time S s w h phases =
    pair-own w h (ended_phase time w half.Running phases.running (doing S s w half.Running)) (ended_phase time w half.Pending phases.pending (doing S s w half.Pending))
    (λ g. ended_phase time w g (phase_of g phases) (doing S s w g)) refl refl (ended-own time w h (phase_of h phases) (doing S s w h))
    (λ e. ended-other time w w half.Pending h phases.pending (doing S s w half.Pending) (ap (λ (g : Half). (w == w) && is_same_half half.Pending g) e ∙ other-half (w == w)))
    (λ e. ended-other time w w half.Running h phases.running (doing S s w half.Running) (ap (λ (g : Half). (w == w) && is_same_half half.Running g) e ∙ other-half (w == w)))

closed-here : (time w : ℕ) (h : Half) (phases : WorkPhases) → slices_of w h (slice_to time w half.Running phases.running ++ slice_to time w half.Pending phases.pending) ≡ slice_to time w h (phase_of h phases)
closed-here time w h phases =
    pair-own w h (slice_to time w half.Running phases.running) (slice_to time w half.Pending phases.pending) (λ g. slice_to time w g (phase_of g phases)) refl refl (slice-own time w h (phase_of h phases))
    (λ e. slice-other time w w half.Pending h phases.pending (ap (λ (g : Half). (w == w) && is_same_half half.Pending g) e ∙ other-half (w == w)))
    (λ e. slice-other time w w half.Running h phases.running (ap (λ (g : Half). (w == w) && is_same_half half.Running g) e ∙ other-half (w == w)))

ended-thread : (time : ℕ) (S : ScenarioContents) (s : State) (w : ℕ) (h : Half) (k : ℕ) (all : List WorkPhases) → k ≤ w → w < k + length all
    → slices_of w h (ended_from time S s k all) ≡ ended_phase time w h (thread_open w h k all) (doing S s w h)
ended-thread time S s w h k [] from to = absurd (omega (arith, from, to))
ended-thread time S s w h k (phases ∷ more) from to = chosen (k == w) refl (λ past. ended-past time S s w h (k + 1) more past) (λ later. ended-thread time S s w h (k + 1) more later (omega (arith, to))) where
  one : ℕ → List PhaseSlice
  one n = ended_phase time n half.Running phases.running (doing S s n half.Running) ++ ended_phase time n half.Pending phases.pending (doing S s n half.Pending)

  chosen : (b : Bool) → (k == w) ≡ b → (w < k + 1 → slices_of w h (ended_from time S s (k + 1) more) ≡ [])
      → (k + 1 ≤ w → slices_of w h (ended_from time S s (k + 1) more) ≡ ended_phase time w h (thread_open w h (k + 1) more) (doing S s w h))
      → slices_of w h (one k ++ ended_from time S s (k + 1) more) ≡ ended_phase time w h (cond b (phase_of h phases) (thread_open w h (k + 1) more)) (doing S s w h)
  chosen true e none rest =
      let same : k ≡ w = eqb-true k w e in
      of-append w h (one k) (ended_from time S s (k + 1) more)
      ∙ ap (λ (xs : List PhaseSlice). slices_of w h (one k) ++ xs) (none (omega (arith, same))) ∙ nil-right (slices_of w h (one k))
      ∙ ap (λ (n : ℕ). slices_of w h (one n)) same ∙ ended-here time S s w h phases
  chosen false e none rest =
      let later : k + 1 ≤ w = grind (arith, nat_tests, e, from) in
      let other : w ≡ k → ⊥ = λ same. absurd (omega (arith, later, same)) in
      let not : k ≡ w → ⊥ = λ same. absurd (omega (arith, later, same)) in
      of-append w h (one k) (ended_from time S s (k + 1) more)
      ∙ ap (λ (xs : List PhaseSlice). xs ++ slices_of w h (ended_from time S s (k + 1) more))
      (pair-other w h (ended_phase time k half.Running phases.running (doing S s k half.Running)) (ended_phase time k half.Pending phases.pending (doing S s k half.Pending))
      (ended-other time w k half.Running h phases.running (doing S s k half.Running) (other-work w k half.Running h not))
      (ended-other time w k half.Pending h phases.pending (doing S s k half.Pending) (other-work w k half.Pending h not)))
      ∙ rest later

closed-thread : (time w : ℕ) (h : Half) (k : ℕ) (all : List WorkPhases) → k ≤ w → w < k + length all → slices_of w h (slices_to time k all) ≡ slice_to time w h (thread_open w h k all)
closed-thread time w h k [] from to = absurd (omega (arith, from, to))
closed-thread time w h k (phases ∷ more) from to = chosen (k == w) refl (λ past. closed-past time w h (k + 1) more past) (λ later. closed-thread time w h (k + 1) more later (omega (arith, to))) where
  one : ℕ → List PhaseSlice
  one n = slice_to time n half.Running phases.running ++ slice_to time n half.Pending phases.pending

  chosen : (b : Bool) → (k == w) ≡ b → (w < k + 1 → slices_of w h (slices_to time (k + 1) more) ≡ [])
      → (k + 1 ≤ w → slices_of w h (slices_to time (k + 1) more) ≡ slice_to time w h (thread_open w h (k + 1) more))
      → slices_of w h (one k ++ slices_to time (k + 1) more) ≡ slice_to time w h (cond b (phase_of h phases) (thread_open w h (k + 1) more))
  chosen true e none rest =
      let same : k ≡ w = eqb-true k w e in
      of-append w h (one k) (slices_to time (k + 1) more)
      ∙ ap (λ (xs : List PhaseSlice). slices_of w h (one k) ++ xs) (none (omega (arith, same))) ∙ nil-right (slices_of w h (one k))
      ∙ ap (λ (n : ℕ). slices_of w h (one n)) same ∙ closed-here time w h phases
  chosen false e none rest =
      let later : k + 1 ≤ w = grind (arith, nat_tests, e, from) in
      let not : k ≡ w → ⊥ = λ same. absurd (omega (arith, later, same)) in
      of-append w h (one k) (slices_to time (k + 1) more)
      ∙ ap (λ (xs : List PhaseSlice). xs ++ slices_of w h (slices_to time (k + 1) more))
      (pair-other w h (slice_to time k half.Running phases.running) (slice_to time k half.Pending phases.pending)
      (slice-other time w k half.Running h phases.running (other-work w k half.Running h not))
      (slice-other time w k half.Pending h phases.pending (other-work w k half.Pending h not)))
      ∙ rest later

phase-next : (time : ℕ) (S : ScenarioContents) (s : State) (k : ℕ) (h : Half) (phases : WorkPhases)
    → phase_of h (record { running = phase_then time phases.running (doing S s k half.Running); pending = phase_then time phases.pending (doing S s k half.Pending) }) ≡ phase_then time (phase_of h phases) (doing S s k h)
phase-next time S s k half.Running phases = refl
phase-next time S s k half.Pending phases = refl

next-thread : (time : ℕ) (S : ScenarioContents) (s : State) (w : ℕ) (h : Half) (k : ℕ) (all : List WorkPhases) → k ≤ w → w < k + length all
    → thread_open w h k (phases_from time S s k all) ≡ phase_then time (thread_open w h k all) (doing S s w h)
next-thread time S s w h k [] from to = absurd (omega (arith, from, to))
next-thread time S s w h k (phases ∷ more) from to = chosen (k == w) refl (λ later. next-thread time S s w h (k + 1) more later (omega (arith, to))) where
  one : WorkPhases
  one = record { running = phase_then time phases.running (doing S s k half.Running); pending = phase_then time phases.pending (doing S s k half.Pending) }

  chosen : (b : Bool) → (k == w) ≡ b → (k + 1 ≤ w → thread_open w h (k + 1) (phases_from time S s (k + 1) more) ≡ phase_then time (thread_open w h (k + 1) more) (doing S s w h))
      → cond b (phase_of h one) (thread_open w h (k + 1) (phases_from time S s (k + 1) more)) ≡ phase_then time (cond b (phase_of h phases) (thread_open w h (k + 1) more)) (doing S s w h)
  chosen true e rest = phase-next time S s k h phases ∙ ap (λ (n : ℕ). phase_then time (phase_of h phases) (doing S s n h)) (eqb-true k w e)
  chosen false e rest = rest (grind (arith, nat_tests, e, from))

-- Along a run.

abbrev since_or : ℕ → Option OpenPhase → ℕ
since_or time (Some phase) = phase.since
since_or time None = time

or-later : (from a b : ℕ) (phase : Option OpenPhase) → from ≤ since_or a phase → a ≤ b → from ≤ since_or b phase
or-later from a b (Some phase) h later = h
or-later from a b None h later = omega (arith, h, later)

begun-since : (a b : ℕ) (now : Option Doing) → a ≤ b → a ≤ since_or b (begun a now)
begun-since a b (Some now) later = omega arith
begun-since a b None later = later

tick-order : (from a b w : ℕ) (h : Half) (phase : Option OpenPhase) (now : Option Doing) (goes : Bool) (rest : List PhaseSlice) → from ≤ since_or a phase → from ≤ a → a ≤ b
    → ((f : ℕ) → f ≤ since_or b (cond goes phase (begun a now)) → f ≤ b → InOrder f rest) → InOrder from (cond goes [] (slice_to a w h phase) ++ rest)
tick-order from a b w h phase now true rest since early later more = more from (or-later from a b phase since later) (omega (arith, early, later))
tick-order from a b w h (Some phase) now false rest since early later more = (since, more a (begun-since a b now later) later)
tick-order from a b w h None now false rest since early later more =
    let start = begun-since a b now later in
    more from (omega (arith, early, start)) (omega (arith, early, later))

end-order : (from a w : ℕ) (h : Half) (phase : Option OpenPhase) → from ≤ since_or a phase → InOrder from (slice_to a w h phase)
end-order from a w h (Some phase) since = (since, tt)
end-order from a w h None since = tt

run-order : (S : ScenarioContents) → IsSetting S → (w : ℕ) (h : Half) → w < length S.works → (all : List WorkPhases) (s : State) (instrs : List Instr) (from : ℕ) → length all ≡ length S.works
    → from ≤ since_or s.time (thread_open w h 0 all) → from ≤ s.time → InOrder from (slices_of w h (slices_from S all s instrs))
run-order S setting w h there all s [] from many since early =
    subst (λ (xs : List PhaseSlice). InOrder from xs) (sym (closed-thread s.time w h 0 all (omega arith) (omega (arith, there, many)))) (end-order from s.time w h (thread_open w h 0 all) since)
run-order S setting w h there all s (i ∷ is) from many since early =
    chosen (nat_lt s.time (table S s i).0.time) refl (λ next f long begins before. run-order S setting w h there next (table S s i).0 is f long begins before) where
      t : State
      t = (table S s i).0

      chosen : (b : Bool) → nat_lt s.time t.time ≡ b
          → ((next : List WorkPhases) (f : ℕ) → length next ≡ length S.works → f ≤ since_or t.time (thread_open w h 0 next) → f ≤ t.time → InOrder f (slices_of w h (slices_from S next t is)))
          → InOrder from (slices_of w h (cond b (ended_from s.time S s 0 all) [] ++ slices_from S (cond b (phases_from s.time S s 0 all) all) t is))
      chosen true e rest =
          let later : s.time < t.time = ltb-true s.time t.time e in
          let next = phases_from s.time S s 0 all in
          let phase = thread_open w h 0 all in
          let now = doing S s w h in
          let to : w < 0 + length all = omega (arith, there, many) in
          let opens = next-thread s.time S s w h 0 all (omega arith) to in
          let ends = of-append w h (ended_from s.time S s 0 all) (slices_from S next t is)
          ∙ ap (λ (xs : List PhaseSlice). xs ++ slices_of w h (slices_from S next t is)) (ended-thread s.time S s w h 0 all (omega arith) to) in
          subst (λ (xs : List PhaseSlice). InOrder from xs) (sym ends)
          (tick-order from s.time t.time w h phase now (goes_on phase now) (slices_of w h (slices_from S next t is)) since early (omega (arith, later))
          (λ f begins before. rest next f (phases-length s.time S s 0 all ∙ many) (subst (λ (p : Option OpenPhase). f ≤ since_or t.time p) (sym opens) begins) before))
      chosen false e rest =
          let on = time-goes_on S s i setting in
          rest all from many (or-later from s.time t.time (thread_open w h 0 all) since on) (omega (arith, early, on))

pub never_overlaps : NeverOverlaps
unfolding NeverOverlaps
never_overlaps S valid instrs w h there =
    run-order S (IsSetting-valid S valid) w h there (no_phases (length S.works)) (start S) instrs 0 (length-replicate (length S.works) (record { running = None; pending = None })) (omega arith) (omega arith)
