-- Lists, said in the words of the table: a list that holds just the works that pass a test, by a number each.
use Rattle.std.specs.Prelude.{◌≡◌, ℕ, ◌+◌, ◌*◌, ◌^◌, ◌<◌, Bool, true, length}
use Rattle.cmwq_types.specs.First.{first_below, by_least, by_least_two, by_greatest}
use Rattle.cmwq_lists.specs.ListContents.{ListContents, first_in, is_in, last_in, order_at}

-- the list holds just the works that pass, each by its number
pub record Holds (c : ListContents) (list : ℕ) (number : ℕ → ℕ) (test : ℕ → Bool) : Type 0 where
  pub works : (w : ℕ) → w < length c.ranks → is_in c list w ≡ test w
  pub orders : (w : ℕ) → w < length c.ranks → test w ≡ true → order_at c w ≡ number w

-- The list's first is the one of least number, and its last the one of greatest number.
abbrev pub FirstsAreOfTheTest : Type 0
FirstsAreOfTheTest =
    (c : ListContents) → (list : ℕ) → (number : ℕ → ℕ) → (test : ℕ → Bool) → Holds c list number test
    → first_in c list ≡ first_below (by_least number) test (length c.ranks)

abbrev pub LastsAreOfTheTest : Type 0
LastsAreOfTheTest =
    (c : ListContents) → (list : ℕ) → (number : ℕ → ℕ) → (test : ℕ → Bool) → Holds c list number test
    → last_in c list ≡ first_below (by_greatest number) test (length c.ranks)

-- By two numbers is by one: the first times 2^64, plus the second, where that is below 2^64.
abbrev pub TwoKeysAreOne : Type 0
TwoKeysAreOne =
    (key next_key : ℕ → ℕ) → (test : ℕ → Bool) → (n : ℕ) → ((w : ℕ) → w < n → test w ≡ true → next_key w < 2 ^ 64)
    → first_below (by_least_two key next_key) test n ≡ first_below (by_least (λ w. key w * 2 ^ 64 + next_key w)) test n
