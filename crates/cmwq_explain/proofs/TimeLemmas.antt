-- Time passes at settled positions alone, a tick at a time: so at each tick that a run comes to there is one that is looked at.
use Rattle.std.proofs.Common.{◌≡◌, ◌≤◌, ◌<◌, ◌⊎◌, inl, inr, ℕ, zero, suc, ◌+◌, true, List, [], ◌∷◌, length, take, Option, Some, None, arith, refl, ap, ◌∙◌}
use Rattle.std.proofs.Math.Nat.{eq-or-lt_of_le}
use Rattle.std.proofs.lemmas.Bool.{cases_lt}
use Rattle.std.proofs.lemmas.List.{take_all, take_more}
use Rattle.std.specs.Prelude.{◌&&◌, is_none, slice_index_or}
use Rattle.cmwq_types.specs.Contents.{ScenarioContents}
use Rattle.cmwq_types.specs.declared.instr.Instr.{Instr}
use Rattle.cmwq_types.specs.declared.instr.Instr.TheVariants as instr
use Rattle.cmwq_types.specs.declared.reply.Reply.{Reply}
use Rattle.cmwq_table.specs.Counts.{first_due}
use Rattle.cmwq_table.specs.Moves.{first_moving, tick}
use Rattle.cmwq_table.specs.State.{State, start}
use Rattle.cmwq_table.specs.Table.{run, table}
use Rattle.cmwq_table.proofs.RunLemmas.{after_all-append}
use Rattle.cmwq_table.proofs.Frames.{Frame, IsRefused, table-frame}
use Rattle.cmwq_explain.specs.Changes.{is_settled}

-- the time stays, or a tick passes where it is settled
abbrev pub Passes : ScenarioContents → State → ℕ → Type 0
Passes S s time = (time ≡ s.time) ⊎ ((time ≡ s.time + 1) × (is_settled S s ≡ true))

both-none : (due moving : Option ℕ) → due ≡ None → moving ≡ None → (is_none due && is_none moving) ≡ true
both-none None None a b = refl
both-none (Some w) moving a b = cc
both-none None (Some pool) a b = cc

module _ (S : ScenarioContents) (s : State) where
  framed-passes : (i : Instr) (t : State) (r : Reply) → (Frame S s i t) ⊎ (IsRefused s t r) → Passes S s t.time
  framed-passes i t r (inl frame) = in-time frame.time where
    in-time : (t.time ≡ s.time) ⊎ ((t.time ≡ s.time + 1) × (first_due S s ≡ None) × (first_moving S s ≡ None)) → Passes S s t.time
    in-time (inl same) = inl same
    in-time (inr passes) = inr (passes.0, both-none (first_due S s) (first_moving S s) passes.1 passes.2)
  framed-passes i t r (inr refused) = inl (ap (λ (u : State). u.time) refused.same)

  pub table-passes : (i : Instr) → Passes S s (table S s i).0.time
  table-passes i = framed-passes i (table S s i).0 (table S s i).1 (table-frame S s i)

-- Along a run.

module _ (S : ScenarioContents) (instrs : List Instr) where
  abbrev there : ℕ → State
  there k = run S (take k instrs)

  pub state-next : (k : ℕ) → k < length instrs → there (suc k) ≡ (table S (there k) (slice_index_or instrs k instr.Next)).0
  state-next k within =
      let more : suc k ≡ k + 1 = omega arith in
      ap (λ (n : ℕ). there n) more
      ∙ ap (λ (is : List Instr). run S is) (take_more instrs k instr.Next within)
      ∙ after_all-append S (start S) (take k instrs) (slice_index_or instrs k instr.Next ∷ [])

  next-passes-there : (k : ℕ) → k < length instrs → Passes S (there k) (there (suc k)).time
  next-passes-there k within = moved-on (table-passes S (there k) (slice_index_or instrs k instr.Next)) where
    same : (there (suc k)).time ≡ (table S (there k) (slice_index_or instrs k instr.Next)).0.time
    same = ap (λ (s : State). s.time) (state-next k within)

    moved-on : Passes S (there k) (table S (there k) (slice_index_or instrs k instr.Next)).0.time → Passes S (there k) (there (suc k)).time
    moved-on (inl still) = inl (same ∙ still)
    moved-on (inr passes) = inr (same ∙ passes.0, passes.1)

  later : (k : ℕ) → k < length instrs → (there k).time ≤ (there (suc k)).time
  later k within = grows (next-passes-there k within) where
    grows : Passes S (there k) (there (suc k)).time → (there k).time ≤ (there (suc k)).time
    grows (inl still) = omega (arith, still)
    grows (inr passes) = omega (arith, passes.0)

  -- the time never goes back
  upto : (k n : ℕ) → k ≤ n → n ≤ length instrs → (there k).time ≤ (there n).time
  upto k zero less within = (let none : k ≡ 0 = omega (arith, less) in let same = ap (λ (i : ℕ). (there i).time) none in omega (arith, same))
  upto k (suc n) less within = elim (eq-or-lt_of_le less) [
    | inl at ↦ let same = ap (λ (i : ℕ). (there i).time) at in omega (arith, same)
    | inr below ↦ let before = upto k n (omega (arith, below)) (omega (arith, within)) in let step = later n (omega (arith, within)) in omega (arith, before, step)
  ]

  whole : there (length instrs) ≡ run S instrs
  whole = ap (λ (is : List Instr). run S is) (take_all (length instrs) instrs (omega arith))

  pub no_later : (k : ℕ) → k ≤ length instrs → (there k).time ≤ (run S instrs).time
  no_later k within =
      let same = ap (λ (s : State). s.time) whole in
      let before = upto k (length instrs) within (omega arith) in
      omega (arith, same, before)

  -- a position at this tick, which is settled or this one
  abbrev Reached : ℕ → ℕ → Type 0
  Reached tick n = (k : ℕ) × (k ≤ n) × ((there k).time ≡ tick) × ((k ≡ n) ⊎ (is_settled S (there k) ≡ true))

  reach : (tick n : ℕ) → n ≤ length instrs → tick ≤ (there n).time → Reached tick n
  reach tick zero within least = (let at : 0 ≡ tick = omega (arith, least) in (0, omega arith, at, inl refl))
  reach tick (suc n) within least = elim (cases_lt (there n).time tick) [
    | inl after ↦ new (next-passes-there n (omega (arith, within))) after
    | inr before ↦ old (reach tick n (omega (arith, within)) before)
  ] where
    new : Passes S (there n) (there (suc n)).time → (there n).time < tick → Reached tick (suc n)
    new (inl still) after = absurd (omega (arith, still, after, least))
    new (inr passes) after = (let at : (there (suc n)).time ≡ tick = omega (arith, passes.0, after, least) in (suc n, omega arith, at, inl refl))

    last : (k : ℕ) → k ≡ n → (there k).time ≡ tick → Passes S (there n) (there (suc n)).time → Reached tick (suc n)
    last k is at (inl still) = (let same = ap (λ (i : ℕ). (there i).time) is in let on : (there (suc n)).time ≡ tick = omega (arith, still, same, at) in (suc n, omega arith, on, inl refl))
    last k is at (inr passes) = (k, omega (arith, is), at, inr (ap (λ (i : ℕ). is_settled S (there i)) is ∙ passes.1))

    old : Reached tick n → Reached tick (suc n)
    old (k, less, at, inl is) = last k is at (next-passes-there n (omega (arith, within)))
    old (k, less, at, inr settled) = (k, omega (arith, less), at, inr settled)

  pub ticks_are_reached : (tick : ℕ) → tick ≤ (run S instrs).time → Reached tick (length instrs)
  ticks_are_reached tick least =
      let same = ap (λ (s : State). s.time) whole in
      reach tick (length instrs) (omega arith) (omega (arith, same, least))
