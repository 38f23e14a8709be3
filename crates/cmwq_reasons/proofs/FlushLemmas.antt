-- A flush waits for no instance exactly where it is done.
use Rattle.std.proofs.Common.{◌≡◌, ℕ, zero, suc, Bool, true, false, not, cond, ◌&&◌, ◌||◌, List, [], ◌∷◌, ◌++◌, length, arith, refl, ap, ◌∙◌}
use Rattle.std.proofs.lemmas.Bool.{eq-eqb, eqb-true, not-true}
use Rattle.std.specs.Prelude.{nat_lt, ◌==◌}
use Rattle.cmwq_types.specs.Contents.{ScenarioContents}
use Rattle.cmwq_types.specs.First.{count_below}
use Rattle.cmwq_types.specs.Scenario.{queue_of}
use Rattle.cmwq_table.specs.declared.state.FlushTarget.TheVariants as target
use Rattle.cmwq_table.specs.State.{State, pending_at, running_at}
use Rattle.cmwq_table.specs.Counts.{has_instance, placed_born, queued_before, runs}
use Rattle.cmwq_reasons.specs.declared.reason.Instance.{Instance}
use Rattle.cmwq_reasons.specs.Laws.{InAnyState, WaitsUntilDone}
use Rattle.cmwq_reasons.specs.Reasons.{birth, instances_born, pending_half, put_all_by_birth, put_by_birth, running_half, waits_below}

-- What is put stands there.

cond-some : (b : Bool) (x y : Instance) (xs ys : List Instance) → cond b (x ∷ xs) (y ∷ ys) ≡ [] → ⊥
cond-some true x y xs ys e = cc
cond-some false x y xs ys e = cc

put-some : (s : State) (x : Instance) (ys : List Instance) → put_by_birth s x ys ≡ [] → ⊥
put-some s x [] e = cc
put-some s x (y ∷ ys) e = cond-some (nat_lt (birth s x) (birth s y)) x y (y ∷ ys) (put_by_birth s x ys) e

all-none : (s : State) (xs ys : List Instance) → put_all_by_birth s xs ys ≡ [] → (xs ≡ []) × (ys ≡ [])
all-none s [] ys e = (refl, e)
all-none s (x ∷ xs) ys e = absurd (put-some s x (put_all_by_birth s xs ys) e)

none-all : (s : State) (xs ys : List Instance) → xs ≡ [] → ys ≡ [] → put_all_by_birth s xs ys ≡ []
none-all s xs ys e f = ap (λ (zs : List Instance). put_all_by_birth s zs ys) e ∙ f

-- One work.

halves-none : (a b : Bool) (x y : Instance) → (cond a (x ∷ []) [] ++ cond b (y ∷ []) []) ≡ [] → (a || b) ≡ false
halves-none true b x y e = cc
halves-none false true x y e = cc
halves-none false false x y e = refl

none-halves : (a b : Bool) (x y : Instance) → (a || b) ≡ false → (cond a (x ∷ []) [] ++ cond b (y ∷ []) []) ≡ []
none-halves true b x y e = cc
none-halves false true x y e = cc
none-halves false false x y e = refl

born-none : (s : State) (test : ℕ → Bool) (w : ℕ) → instances_born s test w ≡ [] → has_instance s w test ≡ false
born-none s test w e = halves-none (placed_born test (pending_at s w)) (runs (λ r. test r.born) (running_at s w)) (pending_half w) (running_half w) e

none-born : (s : State) (test : ℕ → Bool) (w : ℕ) → has_instance s w test ≡ false → instances_born s test w ≡ []
none-born s test w e = none-halves (placed_born test (pending_at s w)) (runs (λ r. test r.born) (running_at s w)) (pending_half w) (running_half w) e

-- The works of a queue.

if-none : (b c : Bool) (xs : List Instance) → (xs ≡ [] → c ≡ false) → cond b xs [] ≡ [] → (b && c) ≡ false
if-none true c xs gives e = gives e
if-none false c xs gives e = refl

none-if : (b c : Bool) (xs : List Instance) → (c ≡ false → xs ≡ []) → (b && c) ≡ false → cond b xs [] ≡ []
none-if true c xs gives e = gives e
none-if false c xs gives e = refl

bit-none : (b : Bool) → b ≡ false → cond {A = ℕ} b 1 0 ≡ 0
bit-none b e = ap (λ (c : Bool). cond {A = ℕ} c 1 0) e

none-bit : (b : Bool) → cond {A = ℕ} b 1 0 ≡ 0 → b ≡ false
none-bit true e = cc
none-bit false e = refl

module _ (S : ScenarioContents) (s : State) (queue bound : ℕ) where
  abbrev is_waited : ℕ → Bool
  is_waited w = (queue_of S w == queue) && has_instance s w (λ born. nat_lt born bound)

  waits-none : (n : ℕ) → waits_below S s queue bound n ≡ [] → count_below is_waited n ≡ 0
  waits-none zero e = refl
  waits-none (suc n) e =
      let both =
      all-none s (cond (queue_of S n == queue) (instances_born s (λ born. nat_lt born bound) n) []) (waits_below S s queue bound n) e in
      let below : count_below is_waited n ≡ 0 = waits-none n both.1 in
      let here : is_waited n ≡ false =
      if-none (queue_of S n == queue) (has_instance s n (λ born. nat_lt born bound)) (instances_born s (λ born. nat_lt born bound) n)
      (born-none s (λ born. nat_lt born bound) n) both.0 in
      let bit : cond {A = ℕ} (is_waited n) 1 0 ≡ 0 = bit-none (is_waited n) here in
      omega arith

  none-waits : (n : ℕ) → count_below is_waited n ≡ 0 → waits_below S s queue bound n ≡ []
  none-waits zero e = refl
  none-waits (suc n) e =
      let below : count_below is_waited n ≡ 0 = omega arith in
      let bit : cond {A = ℕ} (is_waited n) 1 0 ≡ 0 = omega arith in
      none-all s (cond (queue_of S n == queue) (instances_born s (λ born. nat_lt born bound) n) []) (waits_below S s queue bound n)
      (none-if (queue_of S n == queue) (has_instance s n (λ born. nat_lt born bound)) (instances_born s (λ born. nat_lt born bound) n)
      (none-born s (λ born. nat_lt born bound) n) (none-bit (is_waited n) bit))
      (none-waits n below)

pub waits_until_done : InAnyState WaitsUntilDone
unfolding WaitsUntilDone
waits_until_done S s (target.Instance work born) = (
  λ e. ap not (born-none s (λ b. b == born) work.0 (all-none s (instances_born s (λ b. b == born) work.0) [] e).0),
  λ e. none-all s (instances_born s (λ b. b == born) work.0) [] (none-born s (λ b. b == born) work.0 (not-true (has_instance s work.0 (λ b. b == born)) e)) refl,
)
waits_until_done S s (target.Queue queue bound) = (
  λ e. eq-eqb (queued_before S s queue.0 bound) 0 (waits-none S s queue.0 bound (length S.works) e),
  λ e. none-waits S s queue.0 bound (length S.works) (eqb-true (queued_before S s queue.0 bound) 0 e),
)
waits_until_done S s target.Nothing = (λ e. refl, λ e. refl)
