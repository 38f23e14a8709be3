-- Counts, and the first: words over the numbers below a bound, for works, workers and pools alike.
use Rattle.std.specs.Prelude.{◌≡◌, ℕ, zero, suc, ◌+◌, ◌<◌, Bool, true, false, ◌||◌, ◌&&◌, Option, Some, None, if◌then◌else◌, nat_lt, ◌==◌}

-- how many numbers below n pass the test
abbrev pub count_below : (ℕ → Bool) → ℕ → ℕ
count_below test zero = 0
count_below test (suc n) = count_below test n + (if test n then 1 else 0)

-- the first so far, once the number n has been looked at as well
abbrev pub first_with : (ℕ → ℕ → Bool) → ℕ → Bool → Option ℕ → Option ℕ
first_with before n false found = found
first_with before n true None = Some n
first_with before n true (Some m) = Some (if before n m then n else m)

-- of the numbers below n that pass the test, the one that comes before the others
abbrev pub first_below : (ℕ → ℕ → Bool) → (ℕ → Bool) → ℕ → Option ℕ
first_below before test zero = None
first_below before test (suc n) = first_with before n (test n) (first_below before test n)

-- m passes the test, and no other number below n that passes comes before it
pub record IsFirst (before : ℕ → ℕ → Bool) (test : ℕ → Bool) (n m : ℕ) : Type 0 where
  pub in_range : m < n
  pub passes : test m ≡ true
  pub least : (k : ℕ) → k < n → test k ≡ true → before k m ≡ false

-- Nothing comes before itself; of two at most one comes before the other; and if a doesn't come before b,
-- nor b before c, then a doesn't come before c.
pub record IsOrder (before : ℕ → ℕ → Bool) : Type 0 where
  pub apart : (a : ℕ) → before a a ≡ false
  pub one_way : (a b : ℕ) → before a b ≡ true → before b a ≡ false
  pub onward : (a b c : ℕ) → before a b ≡ false → before b c ≡ false → before a c ≡ false

-- what a search for the first found: a first, or that nothing passes
abbrev pub MatchFirst : (ℕ → ℕ → Bool) → (ℕ → Bool) → ℕ → Option ℕ → Type 0
MatchFirst before test n None = (k : ℕ) → k < n → test k ≡ false
MatchFirst before test n (Some m) = IsFirst before test n m

-- by one number each: the smaller comes first
abbrev pub by_least : (ℕ → ℕ) → ℕ → ℕ → Bool
by_least key v w = nat_lt (key v) (key w)

-- by two numbers each: the smaller first one comes first, then the smaller second one
abbrev pub by_least_two : (ℕ → ℕ) → (ℕ → ℕ) → ℕ → ℕ → Bool
by_least_two key next_key v w = nat_lt (key v) (key w) || ((key v == key w) && nat_lt (next_key v) (next_key w))

-- by one number each: the greater comes first
abbrev pub by_greatest : (ℕ → ℕ) → ℕ → ℕ → Bool
by_greatest key v w = nat_lt (key w) (key v)

-- one or else the other
abbrev pub or_else : {A : Type 0} → Option A → Option A → Option A
or_else (Some x) other = Some x
or_else None other = other
