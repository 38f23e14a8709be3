-- Machines on which `next` is issued again and again.
use Rattle.std.proofs.Common.{◌≡◌, ℕ, zero, suc, ◌+◌, ◌-◌, ◌<◌, ◌≤◌, min, Bool, true, false, None, List, [], ◌∷◌, ◌++◌, ◌⊎◌, inl, inr, length, replicate, arith, below_more, refl, sym, ap, ◌∙◌, subst}
use Rattle.std.proofs.lemmas.Bool.Decides.{nat_tests}
use Rattle.std.proofs.lemmas.Bool.{cases_lt}
use Rattle.std.specs.Prelude.{nat_lt}
use Rattle.cmwq_types.specs.Contents.{ScenarioContents}
use Rattle.cmwq_types.specs.Faults.{IsValid}
use Rattle.cmwq_types.specs.First.{or_else}
use Rattle.cmwq_types.specs.Setting.{IsSetting}
use Rattle.cmwq_types.specs.declared.instr.Instr.{Instr}
use Rattle.cmwq_types.specs.declared.instr.Instr.TheVariants as instr
use Rattle.cmwq_types.specs.declared.limits.TheConstants.{MAX_HISTORY}
use Rattle.cmwq_types.specs.declared.reply.Refusal.TheVariants.{Spent}
use Rattle.cmwq_types.proofs.SettingLemmas.{IsSetting-valid}
use Rattle.cmwq_table.specs.State.{State}
use Rattle.cmwq_table.specs.Table.{after_all, answer, effect, refuse_unless, run, table}
use Rattle.cmwq_table.proofs.CounterLemmas.{effect-spent, has_counters}
use Rattle.cmwq_table.proofs.RunLemmas.{after_all-append}
use Rattle.cmwq_runs.proofs.LineLemmas.{replicate_add}
use Rattle.cmwq_settle.specs.Quiet.{IsUnquietWithin, NeverQuiet, Settles, SettlesWithin, after_nexts, is_quiet_after, nexts_left}
use Rattle.cmwq_table.specs.Counts.{is_quiet}

-- one instruction of a kind more
after_times-more : (S : ScenarioContents) (s : State) (i : Instr) (n : ℕ) → after_all S s (replicate (n + 1) i) ≡ (table S (after_all S s (replicate n i)) i).0
after_times-more S s i n = ap (λ (is : List Instr). after_all S s is) (replicate_add n 1 i) ∙ after_all-append S s (replicate n i) (i ∷ [])

after_nexts-more : (S : ScenarioContents) (s : State) (n : ℕ) → after_nexts S s (n + 1) ≡ (table S (after_nexts S s n) instr.Next).0
after_nexts-more S s n = after_times-more S s instr.Next n

-- after instructions and then so many `next`
pub run-nexts : (S : ScenarioContents) (instrs : List Instr) (n : ℕ) → run S (instrs ++ replicate n instr.Next) ≡ after_nexts S (run S instrs) n
run-nexts S instrs n = after_all-append S (run S []) instrs (replicate n instr.Next)

-- The least number is one number.

pub settles-once : (S : ScenarioContents) (s : State) (most m n : ℕ) → SettlesWithin S s most m → SettlesWithin S s most n → m ≡ n
settles-once S s most m n first second = elim (cases_lt m n) [
  | inl below ↦ (let early = second.least m below in let quiet = first.quiet in cc)
  | inr above ↦ elim (cases_lt n m) [
    | inl late ↦ (let early = first.least n late in let quiet = second.quiet in cc)
    | inr same ↦ omega arith
  ]
]

pub settles-or_never : (S : ScenarioContents) (s : State) (most n : ℕ) → SettlesWithin S s most n → IsUnquietWithin S s most → ⊥
settles-or_never S s most n settles never = let still = never n settles.within in let quiet = settles.quiet in cc

-- what holds below n + 1 holds at n and below it
up_to : (P : ℕ → Type 0) (n : ℕ) → ((j : ℕ) → j ≤ n → P j) → P (suc n) → (j : ℕ) → j ≤ suc n → P j
up_to P n below here j h = elim (cases_lt j (suc n)) [
  | inl lt ↦ below j (omega arith)
  | inr ge ↦ (let same : suc n ≡ j = omega arith in subst P same here)
]

found-or_not : (S : ScenarioContents) (s : State) (n : ℕ) (b : Bool) → is_quiet_after S s (suc n) ≡ b → IsUnquietWithin S s n
    → ((k : ℕ) × SettlesWithin S s (suc n) k) ⊎ IsUnquietWithin S s (suc n)
found-or_not S s n true quiet never = inl (suc n, record { within = omega arith; quiet = quiet; least = λ j h. never j (omega arith) })
found-or_not S s n false quiet never = inr (up_to (λ j. is_quiet_after S s j ≡ false) n never quiet)

at_once-or_not : (S : ScenarioContents) (s : State) (b : Bool) → is_quiet_after S s 0 ≡ b → ((k : ℕ) × SettlesWithin S s 0 k) ⊎ IsUnquietWithin S s 0
at_once-or_not S s true quiet = inl (0, record { within = omega arith; quiet = quiet; least = λ j h. absurd (omega arith) })
at_once-or_not S s false quiet = inr (λ j h. let none : 0 ≡ j = omega arith in subst (λ (k : ℕ). is_quiet_after S s k ≡ false) none quiet)

pub settles-or_not : (S : ScenarioContents) (s : State) (most : ℕ) → ((n : ℕ) × SettlesWithin S s most n) ⊎ IsUnquietWithin S s most
settles-or_not S s zero = at_once-or_not S s (is_quiet_after S s 0) refl
settles-or_not S s (suc most) = elim (settles-or_not S s most) [
  | inl found ↦ inl (found.0, record { within = (let early = found.1.within in omega arith); quiet = found.1.quiet; least = found.1.least })
  | inr never ↦ found-or_not S s most (is_quiet_after S s (suc most)) refl never
]

-- Spent steps.

-- a `next` spends a step where one is left
next-spends : (S : ScenarioContents) (s : State) → IsSetting S → s.spent < S.steps → (table S s instr.Next).0.spent ≡ s.spent + 1
unfolding table
next-spends S s setting left = after (nat_lt s.spent S.steps) (grind (arith, nat_tests)) where
  after : (b : Bool) → b ≡ true → (answer S s instr.Next (or_else (refuse_unless b Spent) None) (effect S s instr.Next)).0.spent ≡ s.spent + 1
  after true e = let same = effect-spent S s instr.Next setting in omega arith
  after false e = cc

-- and where none is left it changes nothing
next-spent : (S : ScenarioContents) (s : State) → S.steps ≤ s.spent → (table S s instr.Next).0 ≡ s
unfolding table
next-spent S s none = after (nat_lt s.spent S.steps) (grind (arith, nat_tests)) where
  after : (b : Bool) → b ≡ false → (answer S s instr.Next (or_else (refuse_unless b Spent) None) (effect S s instr.Next)).0 ≡ s
  after true e = cc
  after false e = refl

-- as many are spent as there are steps left for
nexts-spent : (S : ScenarioContents) (s : State) (n : ℕ) → IsSetting S → s.spent + n ≤ S.steps → (after_nexts S s n).spent ≡ s.spent + n
nexts-spent S s zero setting left = omega arith
nexts-spent S s (suc n) setting left =
    let before = nexts-spent S s n setting (omega arith) in
    let last = next-spends S (after_nexts S s n) setting (omega arith) in
    let more = ap (λ (t : State). t.spent) (after_nexts-more S s n) in
    let same : suc n ≡ n + 1 = omega arith in
    let at = ap (λ (k : ℕ). (after_nexts S s k).spent) same in
    omega (arith, at, more, last, before)

-- those behind them change nothing
nexts-past : (S : ScenarioContents) (s : State) (left n : ℕ) → S.steps ≤ (after_nexts S s left).spent → after_nexts S s (left + n) ≡ after_nexts S s left
nexts-past S s left zero spent = let same : left + 0 ≡ left = omega arith in ap (λ (k : ℕ). after_nexts S s k) same
nexts-past S s left (suc n) spent =
    let before = nexts-past S s left n spent in
    let same : left + suc n ≡ (left + n) + 1 = omega arith in
    let nothing = next-spent S (after_nexts S s left) spent in
    ap (λ (k : ℕ). after_nexts S s k) same ∙ after_nexts-more S s (left + n) ∙ ap (λ (t : State). (table S t instr.Next).0) before ∙ nothing

-- so no more than the steps that are left have to be looked at
nexts-left : (S : ScenarioContents) (s : State) (n : ℕ) → IsSetting S → s.spent ≤ S.steps → after_nexts S s n ≡ after_nexts S s (min (S.steps - s.spent) n)
nexts-left S s n setting within = elim (cases_lt n (S.steps - s.spent)) [
  | inl few ↦ (let least : n ≡ min (S.steps - s.spent) n = omega arith in ap (λ (k : ℕ). after_nexts S s k) least)
  | inr many ↦ (
      let left = S.steps - s.spent in
      let whole : n ≡ left + (n - left) = omega arith in
      let reached = nexts-spent S s left setting (omega arith) in
      let least : min left n ≡ left = omega arith in
      ap (λ (k : ℕ). after_nexts S s k) whole ∙ nexts-past S s left (n - left) (omega arith) ∙ ap (λ (k : ℕ). after_nexts S s k) (sym least))
]

module _ (S : ScenarioContents) (instrs : List Instr) (n : ℕ) (valid : IsValid S) (few : length instrs + n ≤ MAX_HISTORY) where
  capped : is_quiet S (run S (instrs ++ replicate n instr.Next)) ≡ is_quiet_after S (run S instrs) (min (S.steps - (run S instrs).spent) n)
  capped =
      ap (λ (s : State). is_quiet S s)
      (run-nexts S instrs n ∙ nexts-left S (run S instrs) n (IsSetting-valid S valid) (has_counters S valid instrs).spent)

  pub never-within : NeverQuiet S instrs → is_quiet S (run S (instrs ++ replicate n instr.Next)) ≡ false
  never-within never = capped ∙ never (min (S.steps - (run S instrs).spent) n) (omega (arith, few))

  pub settles-within : is_quiet S (run S (instrs ++ replicate n instr.Next)) ≡ true → (k : ℕ) × Settles S instrs k × (k ≤ n)
  settles-within quiet = elim (settles-or_not S (run S instrs) (nexts_left S instrs)) [
    | inl found ↦ (found.0, found.1, not_later found.0 found.1)
    | inr never ↦ (let still = never-within never in cc)
  ]
    where
      not_later : (k : ℕ) → Settles S instrs k → k ≤ n
      not_later k settles = elim (cases_lt n k) [
        | inl early ↦ (let still = settles.least (min (S.steps - (run S instrs).spent) n) (omega arith) in let is = capped in cc)
        | inr late ↦ late
      ]

-- One turn more of a watched machine.

pub unquiet-more : (S T : ScenarioContents) (s t : State) (n : ℕ) → T ≡ S → t ≡ after_nexts S s n → false ≡ is_quiet T t
    → ((j : ℕ) → j < n → is_quiet_after S s j ≡ false) → (j : ℕ) → j < n + 1 → is_quiet_after S s j ≡ false
unquiet-more S T s t n loaded state unquiet below =
    below_more (λ (j : ℕ). is_quiet_after S s j ≡ false) n below
    (sym (unquiet ∙ ap (λ (U : ScenarioContents). is_quiet U t) loaded ∙ ap (λ (u : State). is_quiet S u) state))

-- one instruction more on a machine
pub state-more : (S T : ScenarioContents) (s t u : State) (i : Instr) (n : ℕ) → T ≡ S → t ≡ after_all S s (replicate n i) → u ≡ (table T t i).0
    → u ≡ after_all S s (replicate (n + 1) i)
state-more S T s t u i n loaded state is =
    is ∙ ap (λ (U : ScenarioContents). (table U t i).0) loaded ∙ ap (λ (v : State). (table S v i).0) state ∙ sym (after_times-more S s i n)
