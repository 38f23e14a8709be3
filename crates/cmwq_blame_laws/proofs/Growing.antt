-- What an instruction adds to the counts of a run.
use Rattle.std.proofs.Common.{◌≡◌, ◌⊎◌, ℕ, ◌+◌, ◌<◌, ◌≤◌, Bool, true, false, cond, List, [], ◌∷◌, length, Option, Some, None, arith, refl, sym, ap, subst, ◌∙◌, inl, inr}
use Rattle.std.proofs.lemmas.Bool.{cases_Bool, ltb-false, ltb-true, lt-ltb}
use Rattle.std.specs.Prelude.{nat_lt, slice_index_or}
use Rattle.cmwq_types.specs.Contents.{ScenarioContents}
use Rattle.cmwq_types.specs.declared.instr.Instr.{Instr}
use Rattle.cmwq_table.specs.Counts.{pends, runs}
use Rattle.cmwq_table.specs.Laws.{state_after}
use Rattle.cmwq_table.specs.State.{State, pending_at, running_at, start}
use Rattle.cmwq_table.specs.Table.{run, table}
use Rattle.cmwq_table.specs.declared.state.Pending.{Pending}
use Rattle.cmwq_table.specs.declared.state.Running.{Running}
use Rattle.cmwq_reasons.specs.Reasons.{pending_half, reason_in_place, reason_of_running, running_half}
use Rattle.cmwq_picture.specs.Picture.{place_sign, run_sign}
use Rattle.cmwq_ledger.specs.Ledger.{lets_pass}
use Rattle.cmwq_blame.specs.Blame.{BlameContents, are_below, blame_after, blame_from, blame_ticked, counts_for, is_wait, no_blame, pending_counts, place_of, running_counts, waited, work_counts}
use Rattle.cmwq_blame.proofs.BoundLemmas.{waited-in}
use Rattle.cmwq_blame_laws.specs.Laws.{Grows, GrowsWhileItWaits, InEveryRun, NeverFalls, TimePasses, blame_of_run}

-- There are as many works as in the scenario.

works-after : (S : ScenarioContents) (B : BlameContents) (s : State) (b : Bool) → (cond b (blame_ticked S s B) B).works ≡ B.works
works-after S B s true = refl
works-after S B s false = refl

works-from : (S : ScenarioContents) (B : BlameContents) (s : State) (instrs : List Instr) → (blame_from S B s instrs).works ≡ B.works
works-from S B s [] = refl
works-from S B s (i ∷ is) = works-from S (blame_after S B s i) (table S s i).0 is ∙ works-after S B s (lets_pass s (table S s i).0)

pub works-are : (S : ScenarioContents) (instrs : List Instr) → (blame_of_run S instrs).works ≡ length S.works
works-are S instrs = works-from S (no_blame S) (start S) instrs

-- A count after an instruction.

-- nothing was counted of what isn't a work
outside-none : (B : BlameContents) (w : ℕ) (o : Option ℕ) → are_below B.works w o ≡ false → waited B w o ≡ 0
outside-none B w o e = ap (λ (b : Bool). cond b (slice_index_or B.counts (place_of B.works w o) 0) 0) e

module _ (S : ScenarioContents) (B : BlameContents) (s : State) (w : ℕ) (o : Option ℕ) where
  ticked-below : are_below B.works w o ≡ true → waited (blame_ticked S s B) w o ≡ waited B w o + work_counts S s w o
  ticked-below there =
      waited-in B.works (λ w other. waited B w other + work_counts S s w other) w o
      ∙ ap (λ (b : Bool). cond b (waited B w o + work_counts S s w o) 0) there

  ticked-outside : are_below B.works w o ≡ false → waited (blame_ticked S s B) w o ≡ waited B w o
  ticked-outside e =
      waited-in B.works (λ w other. waited B w other + work_counts S s w other) w o
      ∙ ap (λ (b : Bool). cond b (waited B w o + work_counts S s w o) 0) e ∙ sym (outside-none B w o e)

  ticked-most : waited B w o ≤ waited (blame_ticked S s B) w o
  ticked-most = elim (cases_Bool (are_below B.works w o)) [
    | inl there ↦ (let is = ticked-below there in omega (arith, is))
    | inr e ↦ (let is = ticked-outside e in omega (arith, is))
  ]

  never-less : (b : Bool) → waited B w o ≤ waited (cond b (blame_ticked S s B) B) w o
  never-less true = ticked-most
  never-less false = omega arith

  -- it grows by a tick, in which the work waits
  grown : (b : Bool) → waited B w o < waited (cond b (blame_ticked S s B) B) w o → (b ≡ true) × (are_below B.works w o ≡ true) × (0 < work_counts S s w o)
  grown true more = elim (cases_Bool (are_below B.works w o)) [
    | inl there ↦ (let is = ticked-below there in (refl, there, omega (arith, is, more)))
    | inr e ↦ (let is = ticked-outside e in absurd (omega (arith, is, more)))
  ]
  grown false more = absurd (omega (arith, more))

  grows-by : (b : Bool) → b ≡ true → are_below B.works w o ≡ true → 0 < work_counts S s w o → waited B w o < waited (cond b (blame_ticked S s B) B) w o
  grows-by b e there some =
      let is = ticked-below there in
      subst (λ (c : Bool). waited B w o < waited (cond c (blame_ticked S s B) B) w o) (sym e) (omega (arith, is, some))

pub never_falls : InEveryRun NeverFalls
unfolding NeverFalls
never_falls S valid instrs i w o =
    never-less S (blame_of_run S instrs) (run S instrs) w o (lets_pass (run S instrs) (table S (run S instrs) i).0)

pub grows-with : (S : ScenarioContents) (instrs : List Instr) (i : Instr) (w : ℕ) (o : Option ℕ) → TimePasses S instrs i
    → are_below (length S.works) w o ≡ true → 0 < work_counts S (run S instrs) w o → Grows S instrs i w o
grows-with S instrs i w o later there some =
    grows-by S (blame_of_run S instrs) (run S instrs) w o (lets_pass (run S instrs) (table S (run S instrs) i).0)
    (lt-ltb (run S instrs).time (state_after S (run S instrs) i).time later)
    (ap (λ (n : ℕ). are_below n w o) (works-are S instrs) ∙ there) some

pub grown-with : (S : ScenarioContents) (instrs : List Instr) (i : Instr) (w : ℕ) (o : Option ℕ) → Grows S instrs i w o
    → TimePasses S instrs i × (are_below (length S.works) w o ≡ true) × (0 < work_counts S (run S instrs) w o)
grown-with S instrs i w o more =
    let found = grown S (blame_of_run S instrs) (run S instrs) w o (lets_pass (run S instrs) (table S (run S instrs) i).0) more in (
      ltb-true (run S instrs).time (state_after S (run S instrs) i).time found.0,
      ap (λ (n : ℕ). are_below n w o) (sym (works-are S instrs)) ∙ found.1,
      found.2,
    )

-- Which half waits.

if-some : (b : Bool) (k : ℕ) → 0 < cond b k 0 → b ≡ true
if-some true k some = refl
if-some false k some = absurd (omega (arith, some))

pending-waits : (S : ScenarioContents) (s : State) (w : ℕ) (p : Option Pending) (o : Option ℕ) → 0 < pending_counts S s w p o
    → pends (λ place. is_wait (place_sign place)) p ≡ true
pending-waits S s w (Some p) o some = if-some (is_wait (place_sign p.place)) (counts_for S s w (reason_in_place S s w p.place) o) some
pending-waits S s w None o some = absurd (omega (arith, some))

running-waits : (S : ScenarioContents) (s : State) (w : ℕ) (r : Option Running) (o : Option ℕ) → 0 < running_counts S s w r o
    → runs (λ r. is_wait (run_sign S s w r)) r ≡ true
running-waits S s w (Some r) o some = if-some (is_wait (run_sign S s w r)) (counts_for S s w (reason_of_running S s w r) o) some
running-waits S s w None o some = absurd (omega (arith, some))

pub either : (m n : ℕ) → 0 < m + n → (0 < m) ⊎ (0 < n)
either m n some = by (nat_lt 0 m) refl where
  by : (b : Bool) → nat_lt 0 m ≡ b → (0 < m) ⊎ (0 < n)
  by true e = inl (ltb-true 0 m e)
  by false e = inr (let none = ltb-false 0 m e in omega (arith, none, some))

pub grows_while_it_waits : InEveryRun GrowsWhileItWaits
unfolding GrowsWhileItWaits
grows_while_it_waits S valid instrs i w o more =
    let s = run S instrs in
    let found = grown-with S instrs i w o more in (
      found.0,
      elim (either (pending_counts S s w (pending_at s w) o) (running_counts S s w (running_at s w) o) found.2) [
        | inl some ↦ (pending_half w, refl, pending-waits S s w (pending_at s w) o some)
        | inr some ↦ (running_half w, refl, running-waits S s w (running_at s w) o some)
      ],
    )
