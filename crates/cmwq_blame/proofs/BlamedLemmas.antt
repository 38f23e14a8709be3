-- Whom a reason blames, work by work.
use Rattle.std.proofs.Common.{◌≡◌, ◌⊎◌, ℕ, zero, suc, ◌<◌, Bool, true, false, not, cond, ◌&&◌, ◌||◌, List, [], ◌∷◌, ◌++◌, length, map, Option, Some, None, arith, refl, sym, ap, ◌∙◌, inl, inr}
use Rattle.std.proofs.Math.Bool.{or_assoc}
use Rattle.std.proofs.lemmas.Bool.{and_parts, cases_eq, eq-eqb, ltb-true}
use Rattle.std.proofs.lemmas.Bool.Decides.{nat_tests}
use Rattle.std.proofs.lemmas.List.{map-append}
use Rattle.std.specs.Prelude.{nat_lt, ◌==◌}
use Rattle.cmwq_types.specs.Contents.{ScenarioContents}
use Rattle.cmwq_types.specs.Scenario.{queue_of}
use Rattle.cmwq_types.specs.declared.reply.Place.{Place}
use Rattle.cmwq_types.specs.declared.reply.Place.TheVariants.{Timer, Inactive, Listed, Deferred}
use Rattle.cmwq_table.specs.Counts.{is_active, is_counted, is_deferred, is_listed, is_rescuer, pending_before, pends, running_before, runs, runs_on_rescuer}
use Rattle.cmwq_table.specs.State.{State, pending_at, running_at}
use Rattle.cmwq_table.specs.declared.state.Pending.{Pending}
use Rattle.cmwq_dump.specs.Order.{all_below, put_before, put_if}
use Rattle.cmwq_reasons.specs.Reasons.{causes, deferred_holders, listed_holders, pending_half, pending_holders, pending_works, running_half, running_holders, running_works, work_of, works_on_pool_workers, works_on_rescuer}
use Rattle.cmwq_reasons.specs.declared.reason.Instance.{Instance}
use Rattle.cmwq_reasons.specs.declared.reason.Reason.{Reason}
use Rattle.cmwq_reasons.specs.declared.reason.Reason.TheVariants as reason
use Rattle.cmwq_blame.specs.Blame.{blames, blames_nobody, has_one_of}
use Rattle.cmwq_blame.specs.Table.{is_holder, is_on_worker}

has-append : (v : ℕ) (xs ys : List Instance) → has_one_of v (xs ++ ys) ≡ (has_one_of v xs || has_one_of v ys)
has-append v [] ys = refl
has-append v (x ∷ xs) ys = ap (λ (b : Bool). (work_of x == v) || b) (has-append v xs ys) ∙ sym (or_assoc (work_of x == v) (has_one_of v xs) (has_one_of v ys))

or-swap : (a b c : Bool) → (a || (b || c)) ≡ (b || (a || c))
or-swap true true c = refl
or-swap true false c = refl
or-swap false b c = refl

-- Halves of the works that a list has.

module _ (half : ℕ → Instance) (is_half : (w : ℕ) → work_of (half w) ≡ w) (v : ℕ) where
  abbrev has : List ℕ → Bool
  has ms = has_one_of v (map half ms)

  has-first : (n : ℕ) (ms : List ℕ) → has (n ∷ ms) ≡ ((n == v) || has ms)
  has-first n ms = ap (λ (w : ℕ). (w == v) || has ms) (is_half n)

  -- a place in a list doesn't matter
  has-cond : (b : Bool) (n m : ℕ) (ms rest : List ℕ) → has rest ≡ ((n == v) || has ms) → has (cond b (n ∷ m ∷ ms) (m ∷ rest)) ≡ ((n == v) || has (m ∷ ms))
  has-cond true n m ms rest e = has-first n (m ∷ ms)
  has-cond false n m ms rest e =
      has-first m rest ∙ ap (λ (b : Bool). (m == v) || b) e ∙ or-swap (m == v) (n == v) (has ms) ∙ ap (λ (b : Bool). (n == v) || b) (sym (has-first m ms))

  has-put : (before : ℕ → ℕ → Bool) (n : ℕ) (ms : List ℕ) → has (put_before before n ms) ≡ ((n == v) || has ms)
  has-put before n [] = has-first n []
  has-put before n (m ∷ ms) = has-cond (before n m) n m ms (put_before before n ms) (has-put before n ms)

  -- one number more
  next-below : (n : ℕ) (here there : Bool) → (n ≡ v → here ≡ there) → (cond here ((n == v) || (nat_lt v n && there)) (nat_lt v n && there)) ≡ (nat_lt v (suc n) && there)
  next-below n here there same = elim (cases_eq n v) [
    | inl at ↦
        let is : (n == v) ≡ true = grind (arith, nat_tests) in
        let not_below : nat_lt v n ≡ false = grind (arith, nat_tests) in
        let below : nat_lt v (suc n) ≡ true = grind (arith, nat_tests) in
        ap (λ (b : Bool). cond b ((n == v) || (nat_lt v n && there)) (nat_lt v n && there)) (same at)
        ∙ ap (λ (b : Bool). cond there (b || (nat_lt v n && there)) (nat_lt v n && there)) is
        ∙ ap (λ (b : Bool). cond there true (b && there)) not_below
        ∙ whole there
        ∙ sym (ap (λ (b : Bool). b && there) below)
    | inr apart ↦
        let is : (n == v) ≡ false = grind (arith, nat_tests) in
        let below : nat_lt v (suc n) ≡ nat_lt v n = grind (arith, nat_tests) in
        ap (λ (b : Bool). cond here (b || (nat_lt v n && there)) (nat_lt v n && there)) is
        ∙ either here
        ∙ sym (ap (λ (b : Bool). b && there) below)
  ] where
    whole : (b : Bool) → cond b true false ≡ b
    whole true = refl
    whole false = refl

    either : (b : Bool) → cond b (nat_lt v n && there) (nat_lt v n && there) ≡ (nat_lt v n && there)
    either true = refl
    either false = refl

  has-if : (before : ℕ → ℕ → Bool) (n : ℕ) (b : Bool) (ms : List ℕ) → has (put_if before n b ms) ≡ cond b ((n == v) || has ms) (has ms)
  has-if before n true ms = has-put before n ms
  has-if before n false ms = refl

  pub has-all : (before : ℕ → ℕ → Bool) (test : ℕ → Bool) (n : ℕ) → has (all_below before test n) ≡ (nat_lt v n && test v)
  has-all before test zero = (let none : nat_lt v 0 ≡ false = grind (arith, nat_tests) in sym (ap (λ (b : Bool). b && test v) none))
  has-all before test (suc n) =
      has-if before n (test n) (all_below before test n)
      ∙ ap (λ (b : Bool). cond (test n) ((n == v) || b) b) (has-all before test n)
      ∙ next-below n (test n) (test v) (ap test)

split-place : (at : Place) (pool : ℕ) → is_active at pool ≡ ((is_deferred at && is_active at pool) || is_listed at pool)
split-place (Listed q) pool = refl
split-place (Deferred q) pool = whole (q == pool) where
  whole : (b : Bool) → b ≡ (b || false)
  whole true = refl
  whole false = refl
split-place (Timer due cpu) pool = refl
split-place (Inactive q) pool = refl

split-pending : (o : Option Pending) (pool : ℕ)
    → pends (λ at. is_active at pool) o ≡ (pends (λ at. is_deferred at && is_active at pool) o || pends (λ at. is_listed at pool) o)
split-pending (Some p) pool = split-place p.place pool
split-pending None pool = refl

gathered : (below q a b c : Bool) → ((below && (q && a)) || ((below && (q && b)) || (below && (q && c)))) ≡ (below && (q && (a || (b || c))))
gathered true true a b c = refl
gathered true false a b c = refl
gathered false q a b c = refl

paired : (below a b : Bool) → ((below && a) || (below && b)) ≡ (below && (a || b))
paired true a b = refl
paired false a b = refl

module _ (S : ScenarioContents) (s : State) (w v : ℕ) where
  has-running : (test : ℕ → Bool) → has_one_of v (map running_half (running_works S s test)) ≡ (nat_lt v (length S.works) && test v)
  has-running test = has-all running_half (λ w. refl) v (running_before s) test (length S.works)

  has-pending : (test : ℕ → Bool) → has_one_of v (map pending_half (pending_works S s test)) ≡ (nat_lt v (length S.works) && test v)
  has-pending test = has-all pending_half (λ w. refl) v (pending_before s) test (length S.works)

  pub blames-holders : (pool : ℕ) → blames S s w (reason.Inactive pool) v ≡ (nat_lt v (length S.works) && is_holder S s (queue_of S w) pool v)
  blames-holders pool =
      let queue = queue_of S w in
      let q = queue_of S v == queue in
      let below = nat_lt v (length S.works) in
      let run = runs (λ r. r.pool == pool) (running_at s v) in
      let late = pends (λ at. is_deferred at && is_active at pool) (pending_at s v) in
      let listed = pends (λ at. is_listed at pool) (pending_at s v) in
      has-append v (running_holders S s queue pool) (pending_holders S s queue pool)
      ∙ ap (λ (b : Bool). has_one_of v (running_holders S s queue pool) || b) (has-append v (deferred_holders S s queue pool) (listed_holders S s queue pool))
      ∙ ap (λ (b : Bool). b || (has_one_of v (deferred_holders S s queue pool) || has_one_of v (listed_holders S s queue pool)))
      (has-running (λ w. (queue_of S w == queue) && runs (λ r. r.pool == pool) (running_at s w)))
      ∙ ap (λ (b : Bool). (below && (q && run)) || (b || has_one_of v (listed_holders S s queue pool)))
      (has-pending (λ w. (queue_of S w == queue) && pends (λ at. is_deferred at && is_active at pool) (pending_at s w)))
      ∙ ap (λ (b : Bool). (below && (q && run)) || ((below && (q && late)) || b)) (has-pending (λ w. (queue_of S w == queue) && pends (λ at. is_listed at pool) (pending_at s w)))
      ∙ gathered below q run late listed
      ∙ ap (λ (b : Bool). below && (q && (run || b))) (sym (split-pending (pending_at s v) pool))

  pub blames-counted : (pool : ℕ) → blames S s w (reason.Held pool) v ≡ (nat_lt v (length S.works) && is_counted S s pool v)
  blames-counted pool = has-running (is_counted S s pool)

  pub blames-workers : (pool : ℕ) → blames S s w (reason.NoWorker pool) v ≡ (nat_lt v (length S.works) && is_on_worker S s (queue_of S w) pool v)
  blames-workers pool =
      let queue = queue_of S w in
      let on_pool = λ (w : ℕ). runs (λ r. (r.pool == pool) && not (is_rescuer r.worker)) (running_at s w) in
      let rescued = λ (w : ℕ). (queue_of S w == queue) && runs_on_rescuer s w in
      ap (has_one_of v) (map-append running_half (works_on_pool_workers S s pool) (works_on_rescuer S s queue))
      ∙ has-append v (map running_half (works_on_pool_workers S s pool)) (map running_half (works_on_rescuer S s queue))
      ∙ ap (λ (b : Bool). b || has_one_of v (map running_half (works_on_rescuer S s queue))) (has-running on_pool)
      ∙ ap (λ (b : Bool). (nat_lt v (length S.works) && on_pool v) || b) (has-running rescued)
      ∙ paired (nat_lt v (length S.works)) (on_pool v) (rescued v)

-- Nobody.

has-itself : (x : Instance) (xs : List Instance) → has_one_of (work_of x) (x ∷ xs) ≡ true
has-itself x xs = ap (λ (b : Bool). b || has_one_of (work_of x) xs) (eq-eqb (work_of x) (work_of x) refl)

no-one : (n : ℕ) (xs : List Instance) → ((v : ℕ) → has_one_of v xs ≡ true → v < n) → ((v : ℕ) → v < n → has_one_of v xs ≡ false) → (length xs == 0) ≡ true
no-one n [] below none = refl
no-one n (x ∷ xs) below none = (let has = has-itself x xs in let without = none (work_of x) (below (work_of x) has) in absurd (cc (has, without)))

some-one : (v : ℕ) (xs : List Instance) → has_one_of v xs ≡ true → (length xs == 0) ≡ false
some-one v [] has = cc
some-one v (x ∷ xs) has = grind (arith, nat_tests)

-- none of the works is blamed by a reason that blames works alone
pub nobody-blamed : (S : ScenarioContents) (s : State) (w : ℕ) (a : Reason) → ((v : ℕ) → blames S s w a v ≡ true → v < length S.works)
    → ((v : ℕ) → v < length S.works → blames S s w a v ≡ false) → blames_nobody S s w a ≡ true
nobody-blamed S s w a below none = no-one (length S.works) (causes S s w a) below none

pub somebody-blamed : (S : ScenarioContents) (s : State) (w v : ℕ) (a : Reason) → blames S s w a v ≡ true → blames_nobody S s w a ≡ false
somebody-blamed S s w v a has = some-one v (causes S s w a) has

below-first : (v n : ℕ) (b : Bool) → (nat_lt v n && b) ≡ true → v < n
below-first v n b e = ltb-true v n (and_parts (nat_lt v n) b e).0

-- such a reason blames none but the scenario's works
pub group-below : (S : ScenarioContents) (s : State) (w : ℕ) (a : Reason)
    → ((pool : ℕ) × (a ≡ reason.Inactive pool)) ⊎ (((pool : ℕ) × (a ≡ reason.Held pool)) ⊎ ((pool : ℕ) × (a ≡ reason.NoWorker pool)))
    → (v : ℕ) → blames S s w a v ≡ true → v < length S.works
group-below S s w a (inl (pool, is)) v e = below-first v (length S.works) _ (sym (blames-holders S s w v pool) ∙ sym (ap (λ (a : Reason). blames S s w a v) is) ∙ e)
group-below S s w a (inr (inl (pool, is))) v e = below-first v (length S.works) _ (sym (blames-counted S s w v pool) ∙ sym (ap (λ (a : Reason). blames S s w a v) is) ∙ e)
group-below S s w a (inr (inr (pool, is))) v e = below-first v (length S.works) _ (sym (blames-workers S s w v pool) ∙ sym (ap (λ (a : Reason). blames S s w a v) is) ∙ e)
