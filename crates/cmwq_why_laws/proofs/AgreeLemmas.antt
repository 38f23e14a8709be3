-- Searches of tests that agree, and of orders that agree on those that pass.
use Rattle.std.proofs.Common.{◌≡◌, ℕ, zero, suc, Bool, true, false, List, [], ◌∷◌, Option, Some, None, cond, refl, ap, ◌∙◌, subst}
use Rattle.cmwq_types.specs.First.{first_below, first_with}
use Rattle.cmwq_dump.specs.Order.{all_below, put_before, put_if}

-- the orders agree on two numbers that pass
abbrev pub Agrees : (ℕ → Bool) → (ℕ → ℕ → Bool) → (ℕ → ℕ → Bool) → Type 0
Agrees test before after = (j k : ℕ) → test j ≡ true → test k ≡ true → before j k ≡ after j k

-- The first.

abbrev IfFound : (ℕ → Bool) → Option ℕ → Type 0
IfFound test (Some m) = test m ≡ true
IfFound test None = Unit {0}

chosen-passes : (test : ℕ → Bool) (n m : ℕ) (b : Bool) → test n ≡ true → test m ≡ true → test (cond b n m) ≡ true
chosen-passes test n m true at_n at_m = at_n
chosen-passes test n m false at_n at_m = at_m

with-passes : (before : ℕ → ℕ → Bool) (test : ℕ → Bool) (n : ℕ) (b : Bool) → test n ≡ b → (o : Option ℕ) → IfFound test o → IfFound test (first_with before n b o)
with-passes before test n false e o found = found
with-passes before test n true e None found = e
with-passes before test n true e (Some m) found = chosen-passes test n m (before n m) e found

found-passes : (before : ℕ → ℕ → Bool) (test : ℕ → Bool) (n : ℕ) → IfFound test (first_below before test n)
found-passes before test zero = tt
found-passes before test (suc n) = with-passes before test n (test n) refl (first_below before test n) (found-passes before test n)

pub first-passes : (before : ℕ → ℕ → Bool) (test : ℕ → Bool) (n m : ℕ) → first_below before test n ≡ Some m → test m ≡ true
first-passes before test n m found = of (first_below before test n) (found-passes before test n) found
  where
    of : (o : Option ℕ) → IfFound test o → o ≡ Some m → test m ≡ true
    of (Some k) passes e = let same : k ≡ m = cc in subst (λ (j : ℕ). test j ≡ true) same passes
    of None passes e = cc

with-agrees : (before after : ℕ → ℕ → Bool) (test : ℕ → Bool) (n : ℕ) → Agrees test before after → (b : Bool) → test n ≡ b → (o : Option ℕ) → IfFound test o
    → first_with before n b o ≡ first_with after n b o
with-agrees before after test n agree false e o found = refl
with-agrees before after test n agree true e None found = refl
with-agrees before after test n agree true e (Some m) found = ap (λ (first : Bool). Some (cond first n m)) (agree n m e found)

pub first-agrees : (before after : ℕ → ℕ → Bool) (p q : ℕ → Bool) (n : ℕ) → ((k : ℕ) → p k ≡ q k) → Agrees p before after
    → first_below before p n ≡ first_below after q n
first-agrees before after p q zero same agree = refl
first-agrees before after p q (suc n) same agree =
    with-agrees before after p n agree (p n) refl (first_below before p n) (found-passes before p n)
    ∙ ap (λ (o : Option ℕ). first_with after n (p n) o) (first-agrees before after p q n same agree)
    ∙ ap (λ (b : Bool). first_with after n b (first_below after q n)) (same n)

-- All, in order.

abbrev pub AllPass : (ℕ → Bool) → List ℕ → Type 0
AllPass test [] = Unit {0}
AllPass test (m ∷ ms) = (test m ≡ true) × AllPass test ms

placed-passes : (before : ℕ → ℕ → Bool) (test : ℕ → Bool) (n m : ℕ) (b : Bool) → test n ≡ true → (ms : List ℕ) → AllPass test (m ∷ ms) → AllPass test (put_before before n ms)
    → AllPass test (cond b (n ∷ m ∷ ms) (m ∷ put_before before n ms))
placed-passes before test n m true e ms all later = (e, all)
placed-passes before test n m false e ms all later = (all.0, later)

put-passes : (before : ℕ → ℕ → Bool) (test : ℕ → Bool) (n : ℕ) → test n ≡ true → (ms : List ℕ) → AllPass test ms → AllPass test (put_before before n ms)
put-passes before test n e [] all = (e, tt)
put-passes before test n e (m ∷ ms) all = placed-passes before test n m (before n m) e ms all (put-passes before test n e ms all.1)

if-passes : (before : ℕ → ℕ → Bool) (test : ℕ → Bool) (n : ℕ) (b : Bool) → test n ≡ b → (ms : List ℕ) → AllPass test ms → AllPass test (put_if before n b ms)
if-passes before test n true e ms all = put-passes before test n e ms all
if-passes before test n false e ms all = all

pub all-pass : (before : ℕ → ℕ → Bool) (test : ℕ → Bool) (n : ℕ) → AllPass test (all_below before test n)
all-pass before test zero = tt
all-pass before test (suc n) = if-passes before test n (test n) refl (all_below before test n) (all-pass before test n)

put-agrees : (before after : ℕ → ℕ → Bool) (test : ℕ → Bool) (n : ℕ) → Agrees test before after → test n ≡ true → (ms : List ℕ) → AllPass test ms
    → put_before before n ms ≡ put_before after n ms
put-agrees before after test n agree e [] all = refl
put-agrees before after test n agree e (m ∷ ms) all =
    ap (λ (first : Bool). cond first (n ∷ m ∷ ms) (m ∷ put_before before n ms)) (agree n m e all.0)
    ∙ ap (λ (rest : List ℕ). cond (after n m) (n ∷ m ∷ ms) (m ∷ rest)) (put-agrees before after test n agree e ms all.1)

if-agrees : (before after : ℕ → ℕ → Bool) (test : ℕ → Bool) (n : ℕ) → Agrees test before after → (b : Bool) → test n ≡ b → (ms : List ℕ) → AllPass test ms
    → put_if before n b ms ≡ put_if after n b ms
if-agrees before after test n agree true e ms all = put-agrees before after test n agree e ms all
if-agrees before after test n agree false e ms all = refl

pub all-agrees : (before after : ℕ → ℕ → Bool) (p q : ℕ → Bool) (n : ℕ) → ((k : ℕ) → p k ≡ q k) → Agrees p before after
    → all_below before p n ≡ all_below after q n
all-agrees before after p q zero same agree = refl
all-agrees before after p q (suc n) same agree =
    if-agrees before after p n agree (p n) refl (all_below before p n) (all-pass before p n)
    ∙ ap (λ (ms : List ℕ). put_if after n (p n) ms) (all-agrees before after p q n same agree)
    ∙ ap (λ (b : Bool). put_if after n b (all_below after q n)) (same n)
